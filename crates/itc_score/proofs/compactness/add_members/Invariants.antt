use Rattle.std.proofs.Common.{◌≡◌, ◌<◌, ℕ, false, length, get_or}
use Rattle.itc_score.specs.Places.{held_at}
use Rattle.itc_score.proofs.compactness.add_members.Given as goal

abbrev pub invariant-loop-course : goal.invariant-loop-course
invariant-loop-course l = record {
  whole : length l.counts.items ≡ 700;
  counts : (p : ℕ) → p < 700 → get_or l.counts.items p 0 ≡ held_at (λ c. get_or l.are_members c false) l.held l.course p;
}
