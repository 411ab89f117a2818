use Rattle.std.proofs.Common.{◌≡◌, ◌∙◌, ◌<◌, ◌+◌, arith, ap, get_or, drop, length}
use Rattle.std.specs.Prelude.{◌+ℤ◌}
use Rattle.std.proofs.lemmas.Int.{ints}
use Rattle.numbers.specs.Sums.{total}
use Rattle.duality.specs.Runs.{rows_in, rows_from}
use Rattle.duality.specs.Sums.{times_of}
use Rattle.duality.proofs.PricedLaws.{total-append}
use Rattle.duality.proofs.RunLaws.{no_run, runs_more, length-more}
use Rattle.duality.proofs.RowSumLaws.{in_table_rest}
use Rattle.duality.proofs.row_sums.RowSums.priced_runs.Goals as goal

pub loop-run-preserved : goal.loop-run-preserved
loop-run-preserved c =
    let runs = c.args.runs.now in
    let i = c.loop-run.run-index in
    let f = times_of c.args.self.now.terms.now in
    let r = get_or runs i no_run in
    let there : i < length runs = omega arith in
    let split : total f (rows_in (drop i runs)) ≡ total f (rows_from r.first r.count) +ℤ total f (rows_in (drop (i + 1) runs)) = ap (total f) (runs_more runs i there) ∙ total-append f (rows_from r.first r.count) (rows_in (drop (i + 1) runs)) in
    let fewer = length-more runs i there in
    let before = c.loop-run.invariant in
    let small = c.priced_run.ensures.small in
    record {
      rest = omega (arith, ints, split, before.rest, before.small.low, before.small.high, c.priced_run.ensures.value, small.low, small.high, c.added-sum.ensures);
      fewer = omega (arith, fewer, before.fewer);
      small = record {
        low = omega (arith, ints, fewer, before.fewer, before.small.low, before.small.high, small.low, small.high, c.added-sum.ensures);
        high = omega (arith, ints, fewer, before.fewer, before.small.low, before.small.high, small.low, small.high, c.added-sum.ensures);
      };
      low = in_table_rest (length c.args.self.now.below.now) runs i there before.low;
    }
