use Rattle.std.proofs.Common.{◌≡◌, ◌-◌, ◌<◌, ◌≤◌, ℕ, true, get_or, length}
use Rattle.duality.specs.Sums.{row_before, no_term}
use Rattle.duality.proofs.sums.times_of.Given as goal

abbrev pub invariant-search : goal.invariant-search
invariant-search l = record {
  ordered : l.low ≤ l.high;
  within : l.high ≤ length l.terms;
  below : (i : ℕ) → i < l.low → row_before (get_or l.terms i no_term).row l.row ≡ true;
  above : (i : ℕ) → l.high ≤ i → i < length l.terms → row_before l.row (get_or l.terms i no_term).row ≡ true;
}

abbrev pub decreases-search : goal.decreases-search
decreases-search l = l.high - l.low
