use Rattle.std.proofs.Common.{◌≡◌, ◌≤◌, ◌*◌, get_or}
use Rattle.itc_score.specs.Places.{alone_up_to}
use Rattle.itc_score.proofs.compactness.count_alone.Given as goal

abbrev pub invariant-loop-k : goal.invariant-loop-k
invariant-loop-k l = record {
  value : l.found ≡ alone_up_to l.k (λ p. get_or l.counts p 0);
  small : l.found ≤ l.k * 1000;
}
