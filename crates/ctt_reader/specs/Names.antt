-- Names and the numbers that they have by their place.
use Rattle.std.specs.Prelude.{ℕ, Bool, if◌then◌else◌, List, [], ◌∷◌, ◌++◌, Option, Result, position, bytes_eq}
use Rattle.std.specs.List.{list_any}
use Rattle.input_core.specs.Fields.{◌>>=◌, or_fault, name_of}
use Rattle.input_core.specs.declared.faults.LineKind.{LineKind}
use Rattle.input_core.specs.declared.faults.LineKind.TheVariants.{UnknownCourse, UnknownRoom}

-- the place of the name, from 0
abbrev pub place_of : List ℕ → List (List ℕ) → Option ℕ
place_of name names = position (bytes_eq name) names

abbrev pub has_name : List ℕ → List (List ℕ) → Bool
has_name name names = list_any (bytes_eq name) names

abbrev pub with_name : List (List ℕ) → List ℕ → List (List ℕ)
with_name names name = if has_name name names then names else names ++ name ∷ []

-- the number of the course with that name
abbrev pub course_at : List (List ℕ) → List ℕ → Result ℕ LineKind
course_at courses field = name_of field >>= λ name. or_fault (place_of name courses) UnknownCourse

abbrev pub room_at : List (List ℕ) → List ℕ → Result ℕ LineKind
room_at rooms field = name_of field >>= λ name. or_fault (place_of name rooms) UnknownRoom
