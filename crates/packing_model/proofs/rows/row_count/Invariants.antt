use Rattle.std.proofs.Common.{◌≡◌, ◌≤◌, length}
use Rattle.problem_core.specs.Courses.{passing}
use Rattle.packing_model.specs.Keys.{counts_row}
use Rattle.packing_model.proofs.rows.row_count.Given as goal

abbrev pub invariant-loop-key : goal.invariant-loop-key
invariant-loop-key l = record {
  counted : l.count ≡ length (passing (counts_row l.p l.counts) l.key);
  few : l.count ≤ l.key;
}
