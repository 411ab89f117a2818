-- The lines of an instance file, one kind after the other, as fields. A line's first fault decides: its
-- first field, the number of its fields, each field from left to right, and last a repeated name.
use Rattle.std.specs.Prelude.{ℕ, ◌==◌, Bool, false, not, if◌then◌else◌, nat_le, List, [], ◌∷◌, length, map, Result, Ok, Err, codes, bytes_eq}
use Rattle.std.specs.List.{list_all}
use Rattle.input_core.specs.Fields.{◌>>=◌, name_of, number_in, number_below}
use Rattle.input_core.specs.declared.faults.LineKind.{LineKind}
use Rattle.input_core.specs.declared.faults.LineKind.TheVariants.{Keyword, Fields, NameLength, Dash, Repeated}
use Rattle.ctt_reader.specs.Names.{course_at, has_name}
use Rattle.ctt_reader.specs.declared.instance.Course.{Course}
use Rattle.ctt_reader.specs.declared.instance.Room.{Room}
use Rattle.ctt_reader.specs.declared.instance.Curriculum.{Curriculum}

abbrev pub is_short : List ℕ → Bool
is_short field = nat_le (length field) 64

abbrev pub words_of : List (List ℕ) → Result (List (List ℕ)) LineKind
words_of words = if list_all is_short words then Ok words else Err NameLength

-- `Name:` and any number of fields, each of at most 64 bytes
abbrev pub title_of : List (List ℕ) → Result (List (List ℕ)) LineKind
title_of [] = Err Keyword
title_of (first ∷ words) = if bytes_eq first (codes "Name:") then words_of words else Err Keyword

abbrev pub only_number : ℕ → ℕ → List (List ℕ) → Result ℕ LineKind
only_number low high [] = Err Fields
only_number low high (number ∷ []) = number_in low high number
only_number low high (number ∷ other ∷ fields) = Err Fields

-- a word and a number from low to high
abbrev pub number_after : List ℕ → ℕ → ℕ → List (List ℕ) → Result ℕ LineKind
number_after word low high [] = Err Keyword
number_after word low high (first ∷ fields) = if bytes_eq first word then only_number low high fields else Err Keyword

abbrev pub nothing : List (List ℕ) → Result (Unit {0}) LineKind
nothing [] = Ok tt
nothing (field ∷ fields) = Err Fields

-- a word alone
abbrev pub only_word : List ℕ → List (List ℕ) → Result (Unit {0}) LineKind
only_word word [] = Err Keyword
only_word word (first ∷ fields) = if bytes_eq first word then nothing fields else Err Keyword

abbrev pub course_in : List ℕ → List ℕ → List ℕ → List ℕ → List ℕ → Result Course LineKind
course_in name teacher lectures min_days students = do
  n ← name_of name
  t ← name_of teacher
  l ← number_in 0 1000 lectures
  d ← number_in 0 1000 min_days
  s ← number_in 0 1000000 students
  Ok (record { name = n; teacher = t; lectures = l; min_days = d; students = s })

-- `CourseID Teacher Lectures MinWorkingDays Students`
abbrev pub course_of : List (List ℕ) → Result Course LineKind
course_of (name ∷ teacher ∷ lectures ∷ min_days ∷ students ∷ []) = course_in name teacher lectures min_days students
course_of _ = Err Fields

abbrev pub course_names : List Course → List (List ℕ)
course_names courses = map (λ c. c.name) courses

-- a course has another name than these
abbrev pub new_course : List (List ℕ) → Course → Result Course LineKind
new_course names c = if has_name c.name names then Err Repeated else Ok c

abbrev pub fresh_course : List (List ℕ) → List (List ℕ) → Result Course LineKind
fresh_course names fields = course_of fields >>= new_course names

-- a course has another name than those before it
abbrev pub course_after : List Course → List (List ℕ) → Result Course LineKind
course_after before fields = fresh_course (course_names before) fields

abbrev pub unless_dash : List ℕ → Result (List ℕ) LineKind
unless_dash name = if bytes_eq name (codes "-") then Err Dash else Ok name

abbrev pub room_in : List ℕ → List ℕ → Result Room LineKind
room_in name capacity = do
  n ← name_of name
  m ← unless_dash n
  c ← number_in 0 1000000 capacity
  Ok (record { name = m; capacity = c })

-- `RoomID Capacity`; a room is not named `-`
abbrev pub room_of : List (List ℕ) → Result Room LineKind
room_of (name ∷ capacity ∷ []) = room_in name capacity
room_of _ = Err Fields

abbrev pub room_names : List Room → List (List ℕ)
room_names rooms = map (λ r. r.name) rooms

-- a room has another name than these
abbrev pub new_room : List (List ℕ) → Room → Result Room LineKind
new_room names r = if has_name r.name names then Err Repeated else Ok r

abbrev pub fresh_room : List (List ℕ) → List (List ℕ) → Result Room LineKind
fresh_room names fields = room_of fields >>= new_room names

-- a room has another name than those before it
abbrev pub room_after : List Room → List (List ℕ) → Result Room LineKind
room_after before fields = fresh_room (room_names before) fields

-- the numbers of the courses that the fields name
abbrev pub members_of : List (List ℕ) → List (List ℕ) → Result (List ℕ) LineKind
members_of courses [] = Ok []
members_of courses (field ∷ fields) = do
  member ← course_at courses field
  members ← members_of courses fields
  Ok (member ∷ members)

-- whether the field is a number of members, but of another number than these
abbrev pub is_other_count : Result ℕ LineKind → ℕ → Bool
is_other_count (Ok n) found = not (n == found)
is_other_count (Err kind) found = false

abbrev pub named_count : List ℕ → List ℕ → Result (Unit {0}) LineKind
named_count name count = do
  _ ← name_of name
  _ ← number_in 0 100 count
  Ok tt

-- a name and the number of the fields after it
abbrev pub checked_head : List ℕ → List ℕ → ℕ → Result (Unit {0}) LineKind
checked_head name count found = if is_other_count (number_in 0 100 count) found then Err Fields else named_count name count

-- the name of a curriculum and the fields of its members
abbrev pub curriculum_head : List (List ℕ) → Result (List ℕ × List (List ℕ)) LineKind
curriculum_head (name ∷ count ∷ members) = checked_head name count (length members) >>= λ _. Ok (name, members)
curriculum_head _ = Err Fields

-- `CurriculumID n member1 .. membern`
abbrev pub curriculum_of : List (List ℕ) → List (List ℕ) → Result Curriculum LineKind
curriculum_of courses fields = do
  head ← curriculum_head fields
  members ← members_of courses head.1
  Ok (record { name = head.0; members = members })

abbrev pub constraint_in : List (List ℕ) → ℕ → ℕ → List ℕ → List ℕ → List ℕ → Result (ℕ × ℕ × ℕ) LineKind
constraint_in courses days periods course day period = do
  c ← course_at courses course
  d ← number_below days day
  p ← number_below periods period
  Ok (c, d, p)

-- `CourseID Day Period`
abbrev pub constraint_of : List (List ℕ) → ℕ → ℕ → List (List ℕ) → Result (ℕ × ℕ × ℕ) LineKind
constraint_of courses days periods (course ∷ day ∷ period ∷ []) = constraint_in courses days periods course day period
constraint_of courses days periods _ = Err Fields
