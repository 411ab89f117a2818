use Rattle.std.proofs.Common.{ℕ, ◌<◌, get_or}
use Rattle.exact_simplex.specs.Task.{ColumnsBelow, no_row}
use Rattle.worked_solver.proofs.tasks.are_in_range.Given as goal

abbrev pub invariant-loop-i : goal.invariant-loop-i
invariant-loop-i l = (j : ℕ) → j < l.i → ColumnsBelow l.columns (get_or l.rows j no_row).entries
