use Rattle.std.proofs.Common.{◌≡◌, ◌≤◌, ◌+◌, ◌*◌, take}
use Rattle.std.specs.List.{count_by}
use Rattle.problem_core.specs.Tables.{IsGrid}
use Rattle.itc_score.specs.Sums.{count_pairs}
use Rattle.itc_score.specs.Score.{in_one_room}
use Rattle.itc_score.specs.Places.{is_in}
use Rattle.itc_score.proofs.occupancy.room_pairs.Given as goal

abbrev pub invariant-loop-k : goal.invariant-loop-k
invariant-loop-k l = record {
  value : l.pairs ≡ count_pairs in_one_room (take l.k l.lines);
  small : l.pairs ≤ l.k * 1000000;
  grid : IsGrid l.counts (l.rooms + 1) 700 (λ r p. count_by (is_in r p) (take l.k l.lines));
}
