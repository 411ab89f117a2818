-- Texts that a writer makes: lines of fields, with single blanks between them and a line feed after each line.
use Rattle.std.specs.Prelude.{ℕ, ◌+◌, List, [], ◌∷◌, ◌++◌, length, Result}
use Rattle.input_core.specs.Rows.{Unread, onto_rows}
use Rattle.input_core.specs.declared.cursors.Row.{Row}
use Rattle.input_core.specs.declared.faults.LineFault.{LineFault}

-- the fields with single blanks between them
abbrev pub joined : List (List ℕ) → List ℕ
joined [] = []
joined (field ∷ []) = field
joined (field ∷ other ∷ fields) = field ++ 32 ∷ joined (other ∷ fields)

-- the fields, each behind a blank
abbrev pub behind_blanks : List (List ℕ) → List ℕ
behind_blanks [] = []
behind_blanks (field ∷ fields) = 32 ∷ (field ++ behind_blanks fields)

-- the lines, each with a line feed
abbrev pub written : List (List (List ℕ)) → List ℕ
written [] = []
written (fields ∷ lines) = joined fields ++ 10 ∷ written lines

-- what is read of these lines: those with fields, the first line having the number n
abbrev pub rows_of : ℕ → List (List (List ℕ)) → List (Result Row LineFault)
rows_of n [] = []
rows_of n (fields ∷ lines) = onto_rows n fields (rows_of (n + 1) lines)

abbrev pub unread_of : List (List (List ℕ)) → Unread
unread_of lines = record { rows = rows_of 1 lines; past = length lines + 1 }
