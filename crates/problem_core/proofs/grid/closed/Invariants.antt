use Rattle.std.proofs.Common.{◌≤◌, length, drop}
use Rattle.std.specs.List.{list_any}
use Rattle.problem_core.specs.Facts.{is_pair}
use Rattle.problem_core.specs.Tables.{IsGrid}
use Rattle.problem_core.proofs.grid.closed.Given as goal

abbrev pub decreases-loop-left : goal.decreases-loop-left
decreases-loop-left l = l.left

abbrev pub invariant-loop-left : goal.invariant-loop-left
invariant-loop-left l = record {
  within : l.left ≤ length l.parts.closed;
  grid : IsGrid l.cells.items (length l.parts.capacity) l.parts.slots (λ r s. list_any (is_pair r s) (drop l.left l.parts.closed));
}
