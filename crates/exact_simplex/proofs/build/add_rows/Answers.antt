use Rattle.std.proofs.Common.{◌∙◌, ap}
use Rattle.simplex_tableau.proofs.InverseLaws.{get_or-any}
use Rattle.exact_simplex.specs.Task.{no_row}
use Rattle.exact_simplex.proofs.BuildLemmas.{rows_more}
use Rattle.exact_simplex.proofs.build.add_rows.Goals as goal

pub loop-i-preserved : goal.loop-i-preserved
loop-i-preserved g c =
    let value = g.A.Num.Fraction.value in
    let rows = c.args.rows.now in
    let i = c.loop-i.i in
    record {
      wides = c.in_ok-add_row.ensures.0 ∙ c.loop-i.invariant.wides;
      so_far = rows_more value c.args.lists.now rows i c.as_slice.result.now c.loop-i.lists c.add_row.new.lists
          (c.as_slice.ensures ∙ ap (λ r. r.entries) (get_or-any rows i c.index-rows-i.result no_row c.loop-i-test.true)) c.in_ok-add_row.ensures.1 c.loop-i.invariant.so_far;
    }
