use Rattle.std.proofs.Common.{◌≡◌, ◌<◌, ◌/◌, ◌%◌, ℕ, Bool, length, get_or}
use Rattle.itc_score.specs.Places.{known_related}
use Rattle.itc_score.proofs.conflicts.related.Given as goal

abbrev pub invariant-loop-k : goal.invariant-loop-k
invariant-loop-k l = record {
  whole : length l.cells.items ≡ l.k;
  cells : (k : ℕ) (d : Bool) → k < l.k → get_or l.cells.items k d ≡ known_related l.i (k / 1000) (k % 1000);
}
