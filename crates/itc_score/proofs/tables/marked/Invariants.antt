use Rattle.std.proofs.Common.{◌≤◌, length, drop}
use Rattle.std.specs.List.{list_any}
use Rattle.problem_core.specs.Facts.{is_pair}
use Rattle.problem_core.specs.Tables.{IsGrid}
use Rattle.itc_score.proofs.tables.marked.Given as goal

abbrev pub decreases-loop-left : goal.decreases-loop-left
decreases-loop-left l = l.left

abbrev pub invariant-loop-left : goal.invariant-loop-left
invariant-loop-left l = record {
  within : l.left ≤ length l.pairs;
  grid : IsGrid l.cells.items l.rows l.columns (λ r c. list_any (is_pair r c) (drop l.left l.pairs));
}
