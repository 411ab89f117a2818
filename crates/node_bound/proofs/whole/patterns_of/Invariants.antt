use Rattle.std.proofs.Common.{◌≡◌, ℕ, take, map}
use Rattle.std.specs.Prelude.{ℤ}
use Rattle.node_bound.proofs.whole.patterns_of.Given as goal

abbrev pub invariant-loop-entry : goal.invariant-loop-entry
invariant-loop-entry l = l.patterns ≡ map (λ (e : ℕ × ℤ). e.0) (take l.entry-index l.entries)
