-- How the answers of the parts of a reader are compared with the definitions: a value, and what is left after it.
use Rattle.std.specs.Prelude.{◌≡◌, ℕ, true, false, List, [], ◌∷◌, ◌++◌, ◌+◌, ◌==◌, if◌then◌else◌, Option, Some, None, Result, Ok, Err}
use Rattle.input_core.specs.Rows.{Unread, first_row}
use Rattle.input_core.specs.Fields.{◌>>=◌, Fails}
use Rattle.input_core.specs.declared.faults.LineFault.{LineFault}
use Rattle.input_core.specs.declared.faults.LineKind.TheVariants.{Repeated, Count}
use Rattle.input_core.specs.declared.faults.TextFault.{TextFault}
use Rattle.input_core.specs.declared.faults.TextFault.TheVariants as text_faults
use Rattle.input_core.specs.declared.cursors.Row.{Row}
use Rattle.input_core.specs.Lines.{is_alone}
use Rattle.ctt_reader.specs.Names.{has_name}

-- of a part that takes no memory
abbrev pub Steps : {A : Type 0} → Result A LineFault → Result (A × Unread) LineFault → Unread → Type 0
Steps (Ok x) read new = read ≡ Ok (x, new)
Steps (Err fault) read new = read ≡ Err fault

-- of a part that takes memory
abbrev pub Reads : {X Y : Type 0} → (X → Y) → Result X TextFault → Result (Y × Unread) LineFault → Unread → Type 0
Reads view (Ok x) read new = read ≡ Ok (view x, new)
Reads view (Err e) read new = Fails e read

-- a name was added at the end, or is there already
abbrev pub AddsName : List (List ℕ) → List ℕ → ℕ → Result (Unit {0}) TextFault → List (List ℕ) → Type 0
AddsName old name line (Ok u) new = (has_name name old ≡ false) × (new ≡ old ++ name ∷ [])
AddsName old name line (Err (text_faults.Line fault)) new = (has_name name old ≡ true) × (fault ≡ record { line = line; kind = Repeated })
AddsName old name line (Err text_faults.Memory) new = Unit {0}

-- the next entry of a section, of which so many were found; none where the section ends
abbrev pub section_step : List ℕ → ℕ → ℕ → Unread → Result (Option Row × Unread) LineFault
section_step end wanted found u = do
  next ← first_row u
  if is_alone end next.0.fields
      then (if found == wanted then Ok (None, next.1) else Err (record { line = next.0.line; kind = Count wanted found }))
      else (if found == wanted then Err (record { line = next.0.line; kind = Count wanted (wanted + 1) }) else Ok (Some next.0, next.1))
