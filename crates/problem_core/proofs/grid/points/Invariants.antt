use Rattle.std.proofs.Common.{◌≤◌, length, drop}
use Rattle.problem_core.specs.Measures.{points_of}
use Rattle.problem_core.specs.Tables.{IsGrid}
use Rattle.problem_core.proofs.grid.points.Given as goal

abbrev pub decreases-loop-left : goal.decreases-loop-left
decreases-loop-left l = l.left

abbrev pub invariant-loop-left : goal.invariant-loop-left
invariant-loop-left l = record {
  within : l.left ≤ length l.parts.prefer;
  grid : IsGrid l.cells.items (length l.parts.students) (length l.parts.capacity) (λ c r. points_of c r (drop l.left l.parts.prefer));
}
