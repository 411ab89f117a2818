use Rattle.std.proofs.Common.{◌≡◌, ℕ, drop}
use Rattle.std.specs.Prelude.{ℤ, nat_lt}
use Rattle.std.specs.List.{list_all}
use Rattle.node_bound.proofs.gap.are_known.Given as goal

abbrev pub invariant-loop-entry : goal.invariant-loop-entry
invariant-loop-entry l = list_all (λ (e : ℕ × ℤ). nat_lt e.0 l.count) (drop l.entry-index l.entries) ≡ list_all (λ (e : ℕ × ℤ). nat_lt e.0 l.count) l.entries
