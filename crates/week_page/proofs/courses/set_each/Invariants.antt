use Rattle.std.proofs.Common.{ℕ, ◌≡◌, ◌≤◌, ◌<◌, length, drop, get_or, cond}
use Rattle.std.specs.Prelude.{◌==◌}
use Rattle.std.specs.List.{list_any}
use Rattle.week_page.proofs.courses.set_each.Given as goal

abbrev pub decreases-loop-left : goal.decreases-loop-left
decreases-loop-left l = l.left

abbrev pub invariant-loop-left : goal.invariant-loop-left
invariant-loop-left l = record {
  within : l.left ≤ length l.places;
  whole : length l.table ≡ length l.fn.table;
  each : (c : ℕ) → c < length l.fn.table → get_or l.table c 0 ≡ cond (list_any (λ m. m == c) (drop l.left l.places)) l.number (get_or l.fn.table c 0);
}
