use Rattle.std.proofs.Common.{ℕ, ◌≡◌, ◌∙◌, ◌+◌, arith, ap}
use Rattle.std.specs.Prelude.{ℤ, pos, ◌*ℤ◌, ◌+ℤ◌, slice_index_or}
use Rattle.std.proofs.lemmas.Int.{ints}
use mir.Syntax.{w128}
use mir.Val.{to_z, of_z}
use Rattle.duality.specs.Packing.{Weights, level_side}
use Rattle.duality.proofs.PricedLaws.{plain_times, step_total}
use Rattle.duality.proofs.sums.worth_levels.Goals as goal

pub loop-i-preserved : goal.loop-i-preserved
loop-i-preserved g c =
    let w : Weights = record { weight = g.O.Objective.weight c.args.objective.now; floor = g.O.Objective.floor c.args.objective.now } in
    let f : ℕ → ℤ = λ i. slice_index_or c.args.times.now i (pos 0) *ℤ level_side w c.args.targets.now (i + 1) in
    let before = c.loop-i.invariant in
    let small = c.row_worth.ensures.small in
    let times : ℤ = slice_index_or c.args.times.now c.loop-i.i (pos 0) in
    let here : c.row_worth.result ≡ f c.loop-i.i =
    c.row_worth.ensures.value ∙ ap (λ z. z *ℤ level_side w c.args.targets.now (c.loop-i.i + 1)) (plain_times times (c.requires.small c.loop-i.i (omega arith))) in
    let sum : to_z w128 (of_z w128 c.added-sum.result) ≡ to_z w128 c.loop-i.sum-bits +ℤ c.row_worth.result =
    omega (arith, ints, before.small.low, before.small.high, small.low, small.high, c.added-sum.ensures) in
    record {
      value = step_total f c.loop-i.i (to_z w128 c.loop-i.sum-bits) c.row_worth.result (to_z w128 (of_z w128 c.added-sum.result)) before.value here sum;
      small = record {
        low = omega (arith, ints, before.small.low, before.small.high, small.low, small.high, sum);
        high = omega (arith, ints, before.small.low, before.small.high, small.low, small.high, sum);
      };
    }
