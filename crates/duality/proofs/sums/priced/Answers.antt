use Rattle.std.proofs.Common.{arith}
use Rattle.std.proofs.lemmas.Int.{ints}
use Rattle.duality.specs.declared.row.RowName.TheVariants.{Base}
use Rattle.duality.specs.Sums.{times_of}
use Rattle.duality.proofs.PricedLaws.{total-drop}
use Rattle.duality.proofs.sums.priced.Goals as goal

pub loop-row-preserved : goal.loop-row-preserved
loop-row-preserved c =
    let step = total-drop (times_of c.args.terms.now) c.args.rows.now c.loop-row.row-index (Base 0) (omega arith) in
    let before = c.loop-row.invariant in
    let small = c.times_of.ensures.small in
    record {
      rest = omega (arith, ints, step, before.rest, before.small.low, before.small.high, c.times_of.ensures.value, small.low, small.high, c.added-sum.ensures);
      small = record {
        low = omega (arith, ints, before.small.low, before.small.high, small.low, small.high, c.added-sum.ensures);
        high = omega (arith, ints, before.small.low, before.small.high, small.low, small.high, c.added-sum.ensures);
      };
    }
