use Rattle.std.proofs.Common.{◌≡◌, map}
use Rattle.problem_core.specs.Courses.{passing}
use Rattle.packing_model.specs.Keys.{counts_row, row_of, AreNumbers}
use Rattle.packing_model.proofs.rows.number_rows.Given as goal

abbrev pub invariant-loop-key : goal.invariant-loop-key
invariant-loop-key l = record {
  listed : l.table.rows ≡ map (row_of l.p) (passing (counts_row l.p l.counts) l.key);
  numbered : AreNumbers (counts_row l.p l.counts) l.key l.table.numbers.items;
}
