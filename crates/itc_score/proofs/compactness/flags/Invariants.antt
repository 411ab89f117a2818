use Rattle.std.proofs.Common.{◌≡◌, ◌≤◌, ◌<◌, ℕ, false, length, drop, get_or}
use Rattle.std.specs.Prelude.{◌==◌}
use Rattle.std.specs.List.{list_any}
use Rattle.itc_score.proofs.compactness.flags.Given as goal

abbrev pub decreases-loop-left : goal.decreases-loop-left
decreases-loop-left l = l.left

abbrev pub invariant-loop-left : goal.invariant-loop-left
invariant-loop-left l = record {
  within : l.left ≤ length l.members;
  whole : length l.flags.items ≡ l.courses;
  flags : (c : ℕ) → c < l.courses → get_or l.flags.items c false ≡ list_any (λ m. m == c) (drop l.left l.members);
}
