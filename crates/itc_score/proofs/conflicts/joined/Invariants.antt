use Rattle.std.proofs.Common.{◌≤◌, ◌&&◌, length, drop}
use Rattle.std.specs.List.{list_any}
use Rattle.problem_core.specs.Tables.{IsGrid}
use Rattle.itc_score.specs.Score.{is_member}
use Rattle.itc_score.proofs.conflicts.joined.Given as goal

abbrev pub decreases-loop-left : goal.decreases-loop-left
decreases-loop-left l = l.left

abbrev pub invariant-loop-left : goal.invariant-loop-left
invariant-loop-left l = record {
  within : l.left ≤ length l.curricula;
  grid : IsGrid l.cells.items l.courses l.courses (λ c d. list_any (λ q. is_member q c && is_member q d) (drop l.left l.curricula));
}
