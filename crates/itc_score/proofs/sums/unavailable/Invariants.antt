use Rattle.std.proofs.Common.{◌≡◌, ◌≤◌, take}
use Rattle.std.specs.List.{count_by}
use Rattle.itc_score.specs.Score.{is_unavailable}
use Rattle.itc_score.proofs.sums.unavailable.Given as goal

abbrev pub invariant-loop-line : goal.invariant-loop-line
invariant-loop-line l = record {
  value : l.found ≡ count_by (is_unavailable l.i) (take l.line-index l.lines);
  small : l.found ≤ l.line-index;
}
