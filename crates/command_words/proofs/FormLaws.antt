-- The forms are simple, and which arguments stand in them.
use Rattle.std.proofs.Common.{ℕ, zero, suc, ◌≡◌, ◌<◌, refl, arith, true, codes, length}
use Rattle.std.specs.List.{slice_index_or}
use Rattle.std.specs.Str.{bytes_eq}
use Rattle.clap.specs.Words.{Rule, is_simple_and_free}
use Rattle.clap.proofs.OnLiterals.{clap_on_literals}
use Rattle.command_words.specs.Forms.{budget, courses, solve, check, recert, measure, report, demo}
use Rattle.command_words.proofs.ValueLaws.{IsFreeForm, StandsAt}

pub simple_solve : is_simple_and_free solve ≡ true
unfolding solve clap_on_literals
simple_solve = refl

pub simple_check : is_simple_and_free check ≡ true
unfolding check clap_on_literals
simple_check = refl

pub simple_recert : is_simple_and_free recert ≡ true
unfolding recert clap_on_literals
simple_recert = refl

pub simple_measure : is_simple_and_free measure ≡ true
unfolding measure clap_on_literals
simple_measure = refl

pub free_solve : IsFreeForm solve
unfolding solve clap_on_literals
free_solve = record { ready = refl; leaves = refl; free = refl; negates = refl }

only_budget : (j : ℕ) (e : Rule) → j < length solve.top.rules → bytes_eq (slice_index_or solve.top.rules j e).id (codes "budget") ≡ true → j ≡ 4
unfolding solve clap_on_literals
only_budget zero e lt same = cc
only_budget (suc zero) e lt same = cc
only_budget (suc (suc zero)) e lt same = cc
only_budget (suc (suc (suc zero))) e lt same = cc
only_budget (suc (suc (suc (suc zero)))) e lt same = refl
only_budget (suc (suc (suc (suc (suc j))))) e lt same = absurd (omega arith)

pub budget_in_solve : StandsAt solve 4 budget
unfolding solve clap_on_literals
budget_in_solve = record { there = refl; alone = only_budget; has_id = λ e. cc; no_help = λ e. cc; no_version = λ e. cc }

pub simple_report : is_simple_and_free report ≡ true
unfolding report clap_on_literals
simple_report = refl

pub simple_demo : is_simple_and_free demo ≡ true
unfolding demo clap_on_literals
simple_demo = refl

pub free_demo : IsFreeForm demo
unfolding demo clap_on_literals
free_demo = record { ready = refl; leaves = refl; free = refl; negates = refl }

only_courses : (j : ℕ) (e : Rule) → j < length demo.top.rules → bytes_eq (slice_index_or demo.top.rules j e).id (codes "n") ≡ true → j ≡ 0
unfolding demo clap_on_literals
only_courses zero e lt same = refl
only_courses (suc zero) e lt same = cc
only_courses (suc (suc j)) e lt same = absurd (omega arith)

only_budget_of_demo : (j : ℕ) (e : Rule) → j < length demo.top.rules → bytes_eq (slice_index_or demo.top.rules j e).id (codes "budget") ≡ true → j ≡ 1
unfolding demo clap_on_literals
only_budget_of_demo zero e lt same = cc
only_budget_of_demo (suc zero) e lt same = refl
only_budget_of_demo (suc (suc j)) e lt same = absurd (omega arith)

pub courses_in_demo : StandsAt demo 0 courses
unfolding demo clap_on_literals
courses_in_demo = record { there = refl; alone = only_courses; has_id = λ e. cc; no_help = λ e. cc; no_version = λ e. cc }

pub budget_in_demo : StandsAt demo 1 budget
unfolding demo clap_on_literals
budget_in_demo = record { there = refl; alone = only_budget_of_demo; has_id = λ e. cc; no_help = λ e. cc; no_version = λ e. cc }
