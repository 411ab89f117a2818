-- The lines of a text that have fields, with their numbers, and the faults of single bytes among them.
use Rattle.std.specs.Prelude.{◌≡◌, ℕ, ◌+◌, Bool, true, false, if◌then◌else◌, List, [], ◌∷◌, length, Option, Some, None, Result, Ok, Err}
use Rattle.std.specs.List.{list_all}
use Rattle.input_core.specs.Lines.{lines_of, fields_of, is_field, is_allowed}
use Rattle.input_core.specs.declared.faults.LineFault.{LineFault}
use Rattle.input_core.specs.declared.faults.LineKind.TheVariants.{Byte, Missing}
use Rattle.input_core.specs.declared.cursors.Row.{Row}

-- a line without fields counts for nothing
abbrev pub onto_rows : ℕ → List (List ℕ) → List (Result Row LineFault) → List (Result Row LineFault)
onto_rows n [] rows = rows
onto_rows n (field ∷ fields) rows = Ok (record { line = n; fields = field ∷ fields }) ∷ rows

-- the lines with fields, the first line of these having the number n
abbrev pub rows_from : ℕ → List (List ℕ) → List (Result Row LineFault)
rows_from n [] = []
rows_from n (line ∷ lines) =
    if list_all is_allowed line then onto_rows n (fields_of line) (rows_from (n + 1) lines)
    else Err (record { line = n; kind = Byte }) ∷ rows_from (n + 1) lines

-- what is left of a text: its lines with fields, and the number of the line past its end
pub record Unread : Type 0 where
  pub rows : List (Result Row LineFault)
  pub past : ℕ

abbrev pub unread_from : ℕ → List (List ℕ) → Unread
unread_from n lines = record { rows = rows_from n lines; past = n + length lines }

abbrev pub unread : List ℕ → Unread
unread bytes = unread_from 1 (lines_of bytes)

-- the next of them was taken
abbrev pub NextRow : Unread → Result (Option Row) LineFault → Unread → Type 0
NextRow old (Ok None) new = (old.rows ≡ []) × (new ≡ old)
NextRow old (Ok (Some row)) new = (old.rows ≡ Ok row ∷ new.rows) × (new.past ≡ old.past)
NextRow old (Err fault) new = (old.rows ≡ Err fault ∷ new.rows) × (new.past ≡ old.past)

-- the next line with fields and what is left after it; or the first fault, where the file may not end here
abbrev pub first_row : Unread → Result (Row × Unread) LineFault
first_row u = elim u.rows [
  | [] ↦ Err (record { line = u.past; kind = Missing })
  | Err fault ∷ rows ↦ Err fault
  | Ok row ∷ rows ↦ Ok (row, record { rows = rows; past = u.past })
]

abbrev pub TakesRow : Result (Row × Unread) LineFault → Result Row LineFault → Unread → Type 0
TakesRow read (Ok row) new = read ≡ Ok (row, new)
TakesRow read (Err fault) new = read ≡ Err fault

abbrev pub list_is_empty : List (List ℕ) → Bool
list_is_empty [] = true
list_is_empty (x ∷ xs) = false

-- whether the fields of a line are fields; they are in every text
abbrev pub are_fields : Result Row LineFault → Bool
are_fields (Ok row) = list_all is_field row.fields
are_fields (Err fault) = true
