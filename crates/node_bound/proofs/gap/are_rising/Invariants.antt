use Rattle.std.proofs.Common.{◌≡◌, ℕ, drop, map}
use Rattle.std.specs.Prelude.{ℤ}
use Rattle.packing_model.specs.Rising.{is_rising, rises_from}
use Rattle.node_bound.proofs.gap.are_rising.Given as goal

abbrev pub invariant-loop-entry : goal.invariant-loop-entry
invariant-loop-entry l = rises_from l.last (map (λ (e : ℕ × ℤ). e.0) (drop l.entry-index l.rest)) ≡ is_rising (map (λ (e : ℕ × ℤ). e.0) l.entries)
