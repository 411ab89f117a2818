use Rattle.std.proofs.Common.{◌≡◌, ◌+◌, length}
use Rattle.input_core.specs.Rows.{rows_from}
use Rattle.input_core.proofs.cursors.take_row.Given as goal

abbrev pub invariant-loop-next : goal.invariant-loop-next
invariant-loop-next l = record {
  same : rows_from l.next l.lines ≡ rows_from l.fn.next l.fn.lines;
  end : l.next + length l.lines ≡ l.fn.next + length l.fn.lines;
}

abbrev pub decreases-loop-next : goal.decreases-loop-next
decreases-loop-next l = length l.lines
