-- The rows of a task name its columns alone.
use Rattle.std.specs.Prelude.{ℕ, ◌<◌, List, length}
use Rattle.std.proofs.Common.{get_or}
use Rattle.exact_simplex.specs.Task.{ColumnsBelow, no_row}
use Rattle.exact_simplex.specs.declared.task.LpRow.{LpRow}

abbrev pub RowsIn : ℕ → List LpRow → Type 0
RowsIn n rows = (i : ℕ) → i < length rows → ColumnsBelow n (get_or rows i no_row).entries
