use Rattle.std.proofs.Common.{◌≡◌, ◌≤◌, ◌&&◌, ◌||◌, ℕ, Bool, length, drop}
use Rattle.std.specs.Prelude.{◌==◌}
use Rattle.std.specs.List.{list_any}
use Rattle.problem_core.specs.Tables.{IsGrid}
use Rattle.itc_score.proofs.conflicts.join.Given as goal

abbrev pub decreases-loop-left : goal.decreases-loop-left
decreases-loop-left l = l.left

abbrev pub invariant-loop-left : goal.invariant-loop-left
invariant-loop-left l = record {
  within : l.left ≤ length l.members;
  whole : length l.cells.items ≡ length l.fn.cells.items;
  joined : (f : ℕ → ℕ → Bool) → IsGrid l.fn.cells.items l.courses l.courses f → IsGrid l.cells.items l.courses l.courses (λ c d. (list_any (λ m. m == c) (drop l.left l.members) && list_any (λ m. m == d) l.members) || f c d);
}
