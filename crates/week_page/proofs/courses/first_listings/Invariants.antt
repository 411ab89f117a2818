use Rattle.std.proofs.Common.{ℕ, ◌≡◌, ◌≤◌, ◌<◌, ◌+◌, length, drop, get_or}
use Rattle.std.specs.Prelude.{◌==◌}
use Rattle.std.specs.List.{list_any, position_or_len}
use Rattle.week_page.proofs.courses.first_listings.Given as goal

abbrev pub decreases-loop-left : goal.decreases-loop-left
decreases-loop-left l = l.left

abbrev pub invariant-loop-left : goal.invariant-loop-left
invariant-loop-left l = record {
  within : l.left ≤ length l.curricula;
  whole : length l.firsts.items ≡ length l.i.courses;
  each : (c : ℕ) → c < length l.i.courses → get_or l.firsts.items c 0 ≡ l.left + position_or_len (λ q. list_any (λ m. m == c) q.members) (drop l.left l.curricula);
}
