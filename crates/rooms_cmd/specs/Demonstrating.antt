-- What `demo` answers.
use Rattle.std.specs.Prelude.{ℕ, ℤ, ◌≡◌, ◌-◌, List, length, ◌++◌, codes}
use Rattle.problem_core.specs.Facts.{Facts}
use Rattle.meeting_patterns.specs.Pattern.{patterns_of}
use Rattle.packing_model.specs.Built.{rows_of}
use Rattle.ctt_reader.specs.declared.instance.Instance.{Instance}
use Rattle.timed_solution.specs.declared.times.Times.{Times}
use Rattle.room_model.specs.ProblemOf.{problem_of}
use Rattle.cert_text.specs.declared.lines.Certificate.{Certificate}
use Rattle.branch_tree.specs.declared.log.Log.{Log}
use Rattle.lex_driver.specs.Solving.{IsOptimal, IsOpen}
use Rattle.run_core.specs.declared.status.ToolStatus.{ToolStatus}
use Rattle.run_core.specs.declared.status.ToolStatus.TheVariants as statuses
use Rattle.demo_files.specs.Generator.{instance_of, times_of, measures_of}
use Rattle.rooms_cmd.specs.Answers.{counted_line, optimal_line, open_line, verified_line}
use Rattle.rooms_cmd.specs.Work.{Work, begins, ends}
use Rattle.reports.specs.Lines.{value_lines}

-- the problem of the input of so many courses
abbrev pub demo_problem : ℕ → Facts
demo_problem n = problem_of (instance_of n) (times_of n) (measures_of n)

-- the number of courses that was asked for, and how many courses, rooms, meetings, patterns and base rows there are
abbrev pub counts_text : ℕ → Instance → Times → Facts → List ℕ
counts_text n i t p =
    counted_line (codes "demo") n ++ counted_line (codes "courses") (length i.courses) ++ counted_line (codes "rooms") (length i.rooms)
    ++ counted_line (codes "meetings") (length t.meetings) ++ counted_line (codes "patterns") (length (patterns_of p)) ++ counted_line (codes "rows") (length (rows_of p))

-- the counts, how many levels the check of the certificate verified, and the first line and the values of what was found
abbrev pub demo_text : ℕ → ℕ → List ℕ → List ℤ → List ℕ
demo_text n levels first values = counts_text n (instance_of n) (times_of n) (demo_problem n) ++ verified_line levels ++ first ++ value_lines values

-- there is a certificate of the input's problem with six finished trees and at most the budget of branches, valid for
-- six levels, in which its choice is best; its values are printed
pub record IsDemonstrated (n budget : ℕ) (text : List ℕ) : Type 0 where
  pub certificate : Certificate
  pub optimal : IsOptimal (demo_problem n) budget certificate
  pub is : text ≡ demo_text n 6 optimal_line certificate.values

-- there is one with exactly the budget of branches, valid for the levels below this one, and a log that accounts for it
-- between the counts before and after; its values are printed
pub record IsDemonstratedOpen (w : Work) (n budget : ℕ) (text : List ℕ) : Type 0 where
  pub level : ℕ
  pub certificate : Certificate
  pub log : Log
  pub is_open : IsOpen (demo_problem n) budget level certificate log (begins w) (ends w (length certificate.cuts))
  pub is : text ≡ demo_text n (level - 1) (open_line level) certificate.values

abbrev pub DemoExplains : Work → ℕ → ℕ → List ℕ → ToolStatus → Type 0
DemoExplains w n budget text statuses.Done = IsDemonstrated n budget text
DemoExplains w n budget text statuses.Open = IsDemonstratedOpen w n budget text
DemoExplains w n budget text status = ⊥
