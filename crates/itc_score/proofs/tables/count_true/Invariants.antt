use Rattle.std.proofs.Common.{◌≡◌, ◌≤◌, ◌+◌, false, get_or}
use Rattle.itc_score.specs.Sums.{count_below}
use Rattle.itc_score.proofs.tables.count_true.Given as goal

abbrev pub invariant-loop-k : goal.invariant-loop-k
invariant-loop-k l = record {
  value : l.found ≡ count_below (λ k. get_or l.cells (l.first + k) false) l.k;
  few : l.found ≤ l.k;
}
