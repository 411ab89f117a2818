use Rattle.std.proofs.Common.{◌≤◌, ◌&&◌, not, length, drop}
use Rattle.std.specs.List.{list_any}
use Rattle.problem_core.specs.Facts.{is_pair, seats}
use Rattle.problem_core.specs.OfParts.{facts_of}
use Rattle.problem_core.specs.Tables.{IsGrid}
use Rattle.problem_core.proofs.grid.admitted.Given as goal

abbrev pub decreases-loop-left : goal.decreases-loop-left
decreases-loop-left l = l.left

abbrev pub invariant-loop-left : goal.invariant-loop-left
invariant-loop-left l = record {
  within : l.left ≤ length l.parts.denied;
  grid : IsGrid l.cells.items (length l.parts.students) (length l.parts.capacity) (λ c r. seats (facts_of l.parts) c r && not (list_any (is_pair c r) (drop l.left l.parts.denied)));
}
