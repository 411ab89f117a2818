use Rattle.std.proofs.Common.{ℕ, ◌≡◌, ◌<◌, ◌∙◌, arith, length}
use Rattle.std.specs.Prelude.{ℤ, ◌+ℤ◌}
use Rattle.std.proofs.lemmas.Int.{ints}
use Rattle.std.proofs.lemmas.List.{length-set}
use mir.Syntax.{w128}
use mir.Val.{to_z, of_z}
use Rattle.duality.specs.declared.row.RowName.TheVariants.{Base}
use Rattle.duality.specs.Sums.{times_of}
use Rattle.duality.proofs.PricedLaws.{step_total}
use Rattle.duality.proofs.RowSumLaws.{entry_set, small_more}
use Rattle.duality.proofs.row_sums.sum_rows.Goals as goal

pub loop-row-preserved : goal.loop-row-preserved
loop-row-preserved c =
    let f : ℕ → ℤ = λ i. times_of c.args.terms.now (Base i) in
    let row = c.loop-row.row in
    let before = c.loop-row.invariant in
    let small = c.times_of.ensures.small in
    let there : row < length c.loop-row.below = omega arith in
    let shown : to_z w128 (of_z w128 c.added-sum.result) ≡ to_z w128 c.loop-row.sum-bits +ℤ c.times_of.result =
    omega (arith, ints, before.within.low, before.within.high, small.low, small.high, c.added-sum.ensures) in
    record {
      whole = length-set c.loop-row.below row (to_z w128 c.loop-row.sum-bits) ∙ before.whole;
      each = entry_set f c.loop-row.below row (to_z w128 c.loop-row.sum-bits) there before.each before.sum;
      small = small_more f row c.times_of.result before.small c.times_of.ensures.value small;
      sum = step_total f row (to_z w128 c.loop-row.sum-bits) c.times_of.result (to_z w128 (of_z w128 c.added-sum.result)) before.sum c.times_of.ensures.value shown;
      within = record {
        low = omega (arith, ints, before.within.low, before.within.high, small.low, small.high, shown);
        high = omega (arith, ints, before.within.low, before.within.high, small.low, small.high, shown);
      };
    }
