use Rattle.std.proofs.Common.{◌≡◌, ◌≤◌, ◌*◌, take}
use Rattle.std.specs.List.{count_by, sum_by}
use Rattle.itc_score.specs.Score.{are_in_conflict}
use Rattle.itc_score.proofs.conflicts.clashing.Given as goal

abbrev pub invariant-loop-line : goal.invariant-loop-line
invariant-loop-line l = record {
  value : l.twice ≡ sum_by (λ line. count_by (are_in_conflict l.i line) l.lines) (take l.line-index l.lines);
  small : l.twice ≤ l.line-index * 1280;
}
