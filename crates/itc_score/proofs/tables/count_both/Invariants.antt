use Rattle.std.proofs.Common.{◌≡◌, ◌≤◌, ◌*◌}
use Rattle.itc_score.specs.Packed.{bits_in_both}
use Rattle.itc_score.proofs.tables.count_both.Given as goal

abbrev pub invariant-loop-k : goal.invariant-loop-k
invariant-loop-k l = record {
  value : l.found ≡ bits_in_both l.words l.first l.others l.second l.k;
  few : l.found ≤ l.k * 64;
}
