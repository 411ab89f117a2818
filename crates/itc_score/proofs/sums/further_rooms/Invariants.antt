use Rattle.std.proofs.Common.{◌≡◌, ◌≤◌, ◌+◌, ◌*◌, ◌-◌, false, get_or}
use Rattle.itc_score.specs.Sums.{sum_below, count_below}
use Rattle.itc_score.proofs.sums.further_rooms.Given as goal

abbrev pub invariant-loop-k : goal.invariant-loop-k
invariant-loop-k l = record {
  value : l.total ≡ sum_below (λ c. count_below (λ r. get_or l.used (c * (l.rooms + 1) + 1 + r) false) l.rooms - 1) l.k;
  small : l.total ≤ l.k * 200;
}
