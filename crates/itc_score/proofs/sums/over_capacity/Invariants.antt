use Rattle.std.proofs.Common.{◌≡◌, ◌≤◌, ◌*◌, take}
use Rattle.std.specs.List.{sum_by}
use Rattle.itc_score.specs.Score.{students_above}
use Rattle.itc_score.proofs.sums.over_capacity.Given as goal

abbrev pub invariant-loop-line : goal.invariant-loop-line
invariant-loop-line l = record {
  value : l.total ≡ sum_by (students_above l.i) (take l.line-index l.lines);
  small : l.total ≤ l.line-index * 1000000;
}
