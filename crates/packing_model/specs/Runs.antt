-- Rows that follow one another as runs.
use Rattle.std.specs.Prelude.{ℕ, ◌+◌, ◌==◌, if◌then◌else◌, List, [], ◌∷◌, ◌++◌}
use Rattle.duality.specs.declared.row.Run.{Run}

abbrev pub no_run : Run
no_run = record { first = 0; count = 0 }

-- the run where it has a row
abbrev pub as_list : Run → List Run
as_list run = if run.count == 0 then [] else run ∷ []

-- the run with one row more where the row follows it, else a new run
abbrev pub with_row : Run → ℕ → Run
with_row run row = if run.first + run.count == row then record { first = run.first; count = run.count + 1 } else record { first = row; count = 1 }

-- the run that the row ends, if it does not follow it
abbrev pub ended : Run → ℕ → List Run
ended run row = if run.first + run.count == row then [] else as_list run

-- the rows behind a run that may grow
abbrev pub merged : Run → List ℕ → List Run
merged run [] = as_list run
merged run (row ∷ rows) = ended run row ++ merged (with_row run row) rows
