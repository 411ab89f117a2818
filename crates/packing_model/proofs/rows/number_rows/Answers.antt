use Rattle.std.proofs.Common.{refl}
use Rattle.packing_model.specs.Keys.{counts_row, row_of}
use Rattle.packing_model.proofs.TableLemmas.{numbers_step, number_is, rows_step, few_rows}
use Rattle.packing_model.proofs.rows.number_rows.Goals as goal

pub add-requires-clause-few : goal.add-requires-clause-few
add-requires-clause-few c = few_rows (counts_row c.args.p.now c.args.counts.now) (row_of c.args.p.now) c.loop-key.key c.loop-key.table.rows c.loop-key.invariant.listed

pub loop-key-preserved : goal.loop-key-preserved
loop-key-preserved c =
    let test = counts_row c.args.p.now c.args.counts.now in
    let f = row_of c.args.p.now in
    let n = c.loop-key.key in
    record {
      listed = rows_step test f n c.loop-key.table.rows _ c.loop-key.invariant.listed c.in_ok-add.ensures.rows;
      numbered = numbers_step test n _ c.loop-key.table.numbers.items _ c.loop-key.invariant.numbered c.in_ok-add.ensures.numbers (number_is test f n _ c.loop-key.table.rows c.loop-key.invariant.listed refl);
    }
