use Rattle.std.proofs.Common.{ℕ, pos, ◌<◌, get_or}
use Rattle.worked_solver.proofs.tasks.is_in_range.Given as goal

abbrev pub invariant-loop-i : goal.invariant-loop-i
invariant-loop-i l = (j : ℕ) → j < l.i → (get_or l.entries j (0, pos 0)).0 < l.columns
