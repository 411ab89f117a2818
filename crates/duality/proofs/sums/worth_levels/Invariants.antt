use Rattle.std.proofs.Common.{◌≡◌, ◌+◌, ◌*◌, ◌^◌}
use Rattle.std.specs.Prelude.{pos, ◌*ℤ◌, slice_index_or}
use Rattle.numbers.specs.Sums.{sum_below}
use Rattle.duality.specs.Packing.{level_side}
use Rattle.duality.specs.Sums.{IsWithin}
use Rattle.duality.proofs.sums.worth_levels.Given as goal

abbrev pub invariant-loop-i : goal.invariant-loop-i
invariant-loop-i g l = record {
  value : l.sum ≡ sum_below (λ i. slice_index_or l.times i (pos 0) *ℤ level_side (record { weight = g.O.Objective.weight l.objective; floor = g.O.Objective.floor l.objective }) l.targets (i + 1)) l.i;
  small : IsWithin (l.i * (4 * 10 ^ 36)) l.sum;
}
