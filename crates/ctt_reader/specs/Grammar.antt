-- Instance files: the lines with fields in their order, and the first faulty line with its first fault.
use Rattle.std.specs.Prelude.{ℕ, ◌+◌, ◌==◌, if◌then◌else◌, List, [], ◌∷◌, ◌++◌, length, Result, Ok, Err, codes}
use Rattle.input_core.specs.Lines.{is_alone}
use Rattle.input_core.specs.Rows.{Unread, first_row, unread}
use Rattle.input_core.specs.Fields.{◌>>=◌, in_line}
use Rattle.input_core.specs.declared.cursors.Row.{Row}
use Rattle.input_core.specs.declared.faults.LineFault.{LineFault}
use Rattle.input_core.specs.declared.faults.LineKind.{LineKind}
use Rattle.input_core.specs.declared.faults.LineKind.TheVariants.{Count, Missing, After}
use Rattle.ctt_reader.specs.Entries.{title_of, number_after, only_word, course_after, course_names, room_after, curriculum_of, constraint_of}
use Rattle.ctt_reader.specs.declared.header.Sizes.{Sizes}
use Rattle.ctt_reader.specs.declared.instance.Course.{Course}
use Rattle.ctt_reader.specs.declared.reader.Sections.{Sections}
use Rattle.ctt_reader.specs.declared.instance.Curriculum.{Curriculum}
use Rattle.ctt_reader.specs.declared.instance.Instance.{Instance}

-- the next line with fields, read as one kind of line, and what is left
abbrev pub line_as : {A : Type 0} → (List (List ℕ) → Result A LineKind) → Unread → Result (A × Unread) LineFault
line_as read u = do
  next ← first_row u
  value ← in_line next.0.line (read next.0.fields)
  Ok (value, next.1)

-- the six numbers of the header, each in a line of its own
abbrev pub sizes_of : Unread → Result (Sizes × Unread) LineFault
sizes_of u = do
  courses ← line_as (number_after (codes "Courses:") 0 1000) u
  rooms ← line_as (number_after (codes "Rooms:") 0 200) courses.1
  days ← line_as (number_after (codes "Days:") 1 14) rooms.1
  periods ← line_as (number_after (codes "Periods_per_day:") 1 48) days.1
  curricula ← line_as (number_after (codes "Curricula:") 0 1000) periods.1
  constraints ← line_as (number_after (codes "Constraints:") 0 100000) curricula.1
  Ok (record { courses = courses.0; rooms = rooms.0; days = days.0; periods = periods.0; curricula = curricula.0; constraints = constraints.0 }, constraints.1)

-- A section's entries, after those before, up to the line with the next section's word alone. That line comes
-- exactly where the header's number of entries is reached.
abbrev pub section : {A : Type 0} → List ℕ → ℕ → (List A → List (List ℕ) → Result A LineKind) → ℕ → List A → List (Result Row LineFault) → Result (List A × Unread) LineFault
section end wanted entry past before [] = Err (record { line = past; kind = Missing })
section end wanted entry past before (Err fault ∷ rows) = Err fault
section end wanted entry past before (Ok row ∷ rows) =
    if is_alone end row.fields
    then (if length before == wanted then Ok (before, record { rows = rows; past = past }) else Err (record { line = row.line; kind = Count wanted (length before) }))
    else (if length before == wanted then Err (record { line = row.line; kind = Count wanted (wanted + 1) })
    else in_line row.line (entry before row.fields) >>= λ x. section end wanted entry past (before ++ x ∷ []) rows)

abbrev pub section_of : {A : Type 0} → List ℕ → ℕ → (List A → List (List ℕ) → Result A LineKind) → Unread → Result (List A × Unread) LineFault
section_of end wanted entry u = section end wanted entry u.past [] u.rows

-- no line with fields is left
abbrev pub end_of : Unread → Result (Unit {0}) LineFault
end_of u = elim u.rows [
  | [] ↦ Ok tt
  | Err fault ∷ rows ↦ Err fault
  | Ok row ∷ rows ↦ Err (record { line = row.line; kind = After })
]

-- the section of the courses, from its first line to the first line of the next one
abbrev pub courses_of : ℕ → Unread → Result (List Course × Unread) LineFault
courses_of wanted u = line_as (only_word (codes "COURSES:")) u >>= λ start. section_of (codes "ROOMS:") wanted course_after start.1

-- the lines of the curricula, given the names of the courses
abbrev pub curricula_of : List (List ℕ) → ℕ → Unread → Result (List Curriculum × Unread) LineFault
curricula_of names wanted u = section_of (codes "UNAVAILABILITY_CONSTRAINTS:") wanted (λ before. curriculum_of names) u

-- the lines of the constraints
abbrev pub constraints_of : List (List ℕ) → Sizes → Unread → Result (List (ℕ × ℕ × ℕ) × Unread) LineFault
constraints_of names sizes u = section_of (codes "END.") sizes.constraints (λ before. constraint_of names sizes.days sizes.periods) u

-- the four sections, to the line that ends the file
abbrev pub sections_of : Sizes → Unread → Result (Sections × Unread) LineFault
sections_of sizes u = do
  courses ← courses_of sizes.courses u
  rooms ← section_of (codes "CURRICULA:") sizes.rooms room_after courses.1
  curricula ← curricula_of (course_names courses.0) sizes.curricula rooms.1
  constraints ← constraints_of (course_names courses.0) sizes curricula.1
  Ok (record { courses = courses.0; rooms = rooms.0; curricula = curricula.0; constraints = constraints.0 }, constraints.1)

-- what an instance file says, or its first faulty line
abbrev pub ctt_of : List ℕ → Result Instance LineFault
ctt_of bytes = do
  title ← line_as title_of (unread bytes)
  sizes ← sizes_of title.1
  sections ← sections_of sizes.0 sizes.1
  _ ← end_of sections.1
  Ok (record { title = title.0; courses = sections.0.courses; rooms = sections.0.rooms; days = sizes.0.days; periods = sizes.0.periods; curricula = sections.0.curricula; constraints = sections.0.constraints })
