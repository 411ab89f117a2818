use Rattle.std.proofs.Common.{◌≡◌, ◌≤◌, ◌*◌, take}
use Rattle.std.specs.List.{sum_by}
use Rattle.itc_score.specs.Score.{is_member}
use Rattle.itc_score.specs.Places.{held_at, alone_among}
use Rattle.itc_score.proofs.compactness.alone.Given as goal

abbrev pub invariant-loop-curriculum : goal.invariant-loop-curriculum
invariant-loop-curriculum l = record {
  value : l.total ≡ sum_by (λ q. alone_among (held_at (is_member q) l.held l.courses)) (take l.curriculum-index l.curricula);
  small : l.total ≤ l.curriculum-index * 1000000;
}
