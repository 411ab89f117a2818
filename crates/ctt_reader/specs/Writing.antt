-- The text that is written of an instance: single blanks between fields, an empty line before the first line of each
-- section and before the last line, and a line feed after each line.
use Rattle.std.specs.Prelude.{ℕ, List, [], ◌∷◌, ◌++◌, length, map, decimal, codes}
use Rattle.text_lines.specs.Written.{written}
use Rattle.ctt_reader.specs.Naming.{course_name}
use Rattle.ctt_reader.specs.declared.instance.Instance.{Instance}
use Rattle.ctt_reader.specs.declared.instance.Course.{Course}
use Rattle.ctt_reader.specs.declared.instance.Room.{Room}
use Rattle.ctt_reader.specs.declared.instance.Curriculum.{Curriculum}

abbrev pub course_line : Course → List (List ℕ)
course_line c = c.name ∷ c.teacher ∷ decimal c.lectures ∷ decimal c.min_days ∷ decimal c.students ∷ []

abbrev pub room_line : Room → List (List ℕ)
room_line r = r.name ∷ decimal r.capacity ∷ []

abbrev pub curriculum_line : Instance → Curriculum → List (List ℕ)
curriculum_line i c = c.name ∷ decimal (length c.members) ∷ map (course_name i) c.members

abbrev pub constraint_line : Instance → ℕ × ℕ × ℕ → List (List ℕ)
constraint_line i x = course_name i x.0 ∷ decimal x.1 ∷ decimal x.2 ∷ []

abbrev pub header_lines : Instance → List (List (List ℕ))
header_lines i =
    (codes "Name:" ∷ i.title)
    ∷ (codes "Courses:" ∷ decimal (length i.courses) ∷ [])
    ∷ (codes "Rooms:" ∷ decimal (length i.rooms) ∷ [])
    ∷ (codes "Days:" ∷ decimal i.days ∷ [])
    ∷ (codes "Periods_per_day:" ∷ decimal i.periods ∷ [])
    ∷ (codes "Curricula:" ∷ decimal (length i.curricula) ∷ [])
    ∷ (codes "Constraints:" ∷ decimal (length i.constraints) ∷ [])
    ∷ []

-- an empty line, the word of the section alone, and its entries
abbrev pub section_lines : List ℕ → List (List (List ℕ)) → List (List (List ℕ))
section_lines word entries = [] ∷ (word ∷ []) ∷ entries

abbrev pub instance_lines : Instance → List (List (List ℕ))
instance_lines i =
    header_lines i
    ++ (section_lines (codes "COURSES:") (map course_line i.courses)
    ++ (section_lines (codes "ROOMS:") (map room_line i.rooms)
    ++ (section_lines (codes "CURRICULA:") (map (curriculum_line i) i.curricula)
    ++ (section_lines (codes "UNAVAILABILITY_CONSTRAINTS:") (map (constraint_line i) i.constraints)
    ++ section_lines (codes "END.") []))))

abbrev pub text_of : Instance → List ℕ
text_of i = written (instance_lines i)
