use Rattle.std.proofs.Common.{ℕ, ◌≡◌, drop, length}
use Rattle.std.specs.Prelude.{ℤ, nat_lt}
use Rattle.std.specs.List.{list_all}
use Rattle.meeting_patterns.specs.Pattern.{patterns_of}
use Rattle.worked_cases.proofs.points.are_known.Given as goal

abbrev pub invariant-loop-entry : goal.invariant-loop-entry
invariant-loop-entry l = list_all (λ (e : ℕ × ℤ). nat_lt e.0 (length (patterns_of l.model))) (drop l.entry-index l.entries) ≡ list_all (λ (e : ℕ × ℤ). nat_lt e.0 (length (patterns_of l.model))) l.entries
