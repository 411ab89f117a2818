use Rattle.std.proofs.Common.{◌≡◌, ℕ, drop, not}
use Rattle.std.specs.Prelude.{ℤ}
use Rattle.std.specs.List.{list_any}
use Rattle.std.specs.Ordering.{int_eq}
use Rattle.node_bound.proofs.whole.is_whole.Given as goal

abbrev pub invariant-loop-entry : goal.invariant-loop-entry
invariant-loop-entry l = list_any (λ (e : ℕ × ℤ). not (int_eq e.1 l.point.den)) (drop l.entry-index l.point.entries) ≡ list_any (λ (e : ℕ × ℤ). not (int_eq e.1 l.point.den)) l.point.entries
