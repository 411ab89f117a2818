use Rattle.std.proofs.Common.{◌≡◌, ◌+◌, ◌-◌, arith, ap}
use Rattle.std.specs.Prelude.{◌+ℤ◌}
use Rattle.std.proofs.lemmas.Int.{ints}
use Rattle.numbers.specs.Sums.{total}
use Rattle.duality.specs.Runs.{rows_from}
use Rattle.duality.specs.declared.row.RowName.TheVariants.{Base}
use Rattle.duality.specs.Sums.{times_of}
use Rattle.duality.proofs.RunLaws.{from_more}
use Rattle.duality.proofs.sums.priced_run.Goals as goal

pub loop-row-preserved : goal.loop-row-preserved
loop-row-preserved c =
    let f = times_of c.args.terms.now in
    let row = c.loop-row.row in
    let end = c.args.run.first + c.args.run.count in
    let split : total f (rows_from row (end - row)) ≡ f (Base row) +ℤ total f (rows_from (row + 1) (end - (row + 1))) = ap (total f) (from_more row end c.loop-row-test.true) in
    let before = c.loop-row.invariant in
    let small = c.times_of.ensures.small in
    record {
      rest = omega (arith, ints, split, before.rest, before.small.low, before.small.high, c.times_of.ensures.value, small.low, small.high, c.added-sum.ensures);
      small = record {
        low = omega (arith, ints, c.loop-row.auto.row, before.small.low, before.small.high, small.low, small.high, c.added-sum.ensures);
        high = omega (arith, ints, c.loop-row.auto.row, before.small.low, before.small.high, small.low, small.high, c.added-sum.ensures);
      };
    }
