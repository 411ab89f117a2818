-- What is written of an instance is read as that instance.
use Rattle.std.proofs.Common.{ℕ, ◌≡◌, ◌≤◌, ◌<◌, ◌+◌, ◌^◌, ◌++◌, Bool, true, List, [], ◌∷◌, length, map, refl, ap, ◌∙◌, arith}
use Rattle.std.specs.Prelude.{Result, Ok, codes, decimal}
use Rattle.std.specs.List.{list_all}
use Rattle.std.proofs.lemmas.Bool.{and_parts}
use Rattle.std.proofs.lemmas.List.Folds.{list_all-append}
use Rattle.input_core.specs.Lines.{is_field}
use Rattle.input_core.specs.Rows.{Unread}
use Rattle.input_core.specs.Fields.{◌>>=◌}
use Rattle.input_core.proofs.ChainLemmas.{bind-ok, both}
use Rattle.text_lines.specs.Written.{rows_of}
use Rattle.text_lines.proofs.ReadBack.{unread-written, decimal-is_field}
use Rattle.ctt_reader.specs.Naming.{course_name}
use Rattle.ctt_reader.specs.Entries.{is_short, title_of, number_after, course_after, course_names, room_after, curriculum_of, constraint_of}
use Rattle.ctt_reader.specs.Grammar.{line_as, sizes_of, section_of, courses_of, curricula_of, constraints_of, sections_of, end_of, ctt_of}
use Rattle.ctt_reader.specs.Promised.{is_name, is_course, is_room, is_curriculum, is_constraint, are_members, IsInstance}
use Rattle.ctt_reader.specs.Writing.{course_line, room_line, curriculum_line, constraint_line, header_lines, section_lines, instance_lines, text_of}
use Rattle.input_core.specs.declared.faults.LineFault.{LineFault}
use Rattle.ctt_reader.specs.declared.header.Sizes.{Sizes}
use Rattle.ctt_reader.specs.declared.instance.Instance.{Instance}
use Rattle.ctt_reader.specs.declared.instance.Course.{Course}
use Rattle.ctt_reader.specs.declared.instance.Room.{Room}
use Rattle.ctt_reader.specs.declared.instance.Curriculum.{Curriculum}
use Rattle.ctt_reader.specs.declared.reader.Sections.{Sections}
use Rattle.ctt_reader.proofs.FieldsBackLemmas.{same_bytes, number_in-back, under, name-is_field}
use Rattle.ctt_reader.proofs.LinesBackLemmas.{section-back, courses-back, rooms-back, curricula-back, constraints-back, course_parts, room_parts, curriculum_parts, constraint_parts, course_name-is_name}

abbrev left : ℕ → ℕ → List (List (List ℕ)) → Unread
left past n lines = record { rows = rows_of n lines; past = past }

-- ---- the header

names-short : (words : List (List ℕ)) → list_all is_name words ≡ true → list_all is_short words ≡ true
names-short [] h = refl
names-short (word ∷ words) h =
    let p = and_parts (is_name word) (list_all is_name words) h in
    both (is_short word) (list_all is_short words) (and_parts (is_field word) (is_short word) p.0).1 (names-short words p.1)

title-back : (past n : ℕ) (title : List (List ℕ)) (rest : List (List (List ℕ))) → list_all is_name title ≡ true
    → line_as title_of (left past n ((codes "Name:" ∷ title) ∷ rest)) ≡ Ok (title, left past (n + 1) rest)
title-back past n title rest h = rw (names-short title h) refl

count-back : (past n : ℕ) (word : List ℕ) (low high k : ℕ) (rest : List (List (List ℕ))) → low ≤ k → k ≤ high → high < 10 ^ 9
    → line_as (number_after word low high) (left past n ((word ∷ decimal k ∷ []) ∷ rest)) ≡ Ok (k, left past (n + 1) rest)
count-back past n word low high k rest l h few = rw (same_bytes word, number_in-back low high k l h few) refl

abbrev sizes : Instance → Sizes
sizes i = record { courses = length i.courses; rooms = length i.rooms; days = i.days; periods = i.periods; curricula = length i.curricula; constraints = length i.constraints }

abbrev count_line : List ℕ → ℕ → List (List ℕ)
count_line word n = word ∷ decimal n ∷ []

-- what is left of the header after each of its lines
abbrev left_6 : Instance → List (List (List ℕ)) → List (List (List ℕ))
left_6 i rest = count_line (codes "Constraints:") (length i.constraints) ∷ rest

abbrev left_5 : Instance → List (List (List ℕ)) → List (List (List ℕ))
left_5 i rest = count_line (codes "Curricula:") (length i.curricula) ∷ left_6 i rest

abbrev left_4 : Instance → List (List (List ℕ)) → List (List (List ℕ))
left_4 i rest = count_line (codes "Periods_per_day:") i.periods ∷ left_5 i rest

abbrev left_3 : Instance → List (List (List ℕ)) → List (List (List ℕ))
left_3 i rest = count_line (codes "Days:") i.days ∷ left_4 i rest

abbrev left_2 : Instance → List (List (List ℕ)) → List (List (List ℕ))
left_2 i rest = count_line (codes "Rooms:") (length i.rooms) ∷ left_3 i rest

abbrev left_1 : Instance → List (List (List ℕ)) → List (List (List ℕ))
left_1 i rest = count_line (codes "Courses:") (length i.courses) ∷ left_2 i rest

sizes-back : (past n : ℕ) (i : Instance) (rest : List (List (List ℕ))) → IsInstance i
    → sizes_of (left past n (left_1 i rest)) ≡ Ok (sizes i, left past (n + 1 + 1 + 1 + 1 + 1 + 1) rest)
sizes-back past n i rest is =
    bind-ok (line_as (number_after (codes "Courses:") 0 1000) (left past n (left_1 i rest))) _ (length i.courses, left past (n + 1) (left_2 i rest))
    (count-back past n (codes "Courses:") 0 1000 (length i.courses) (left_2 i rest) (omega arith) is.few_courses (omega arith))
    ∙ bind-ok (line_as (number_after (codes "Rooms:") 0 200) (left past (n + 1) (left_2 i rest))) _ (length i.rooms, left past (n + 1 + 1) (left_3 i rest))
    (count-back past (n + 1) (codes "Rooms:") 0 200 (length i.rooms) (left_3 i rest) (omega arith) is.few_rooms (omega arith))
    ∙ bind-ok (line_as (number_after (codes "Days:") 1 14) (left past (n + 1 + 1) (left_3 i rest))) _ (i.days, left past (n + 1 + 1 + 1) (left_4 i rest))
    (count-back past (n + 1 + 1) (codes "Days:") 1 14 i.days (left_4 i rest) is.some_days is.few_days (omega arith))
    ∙ bind-ok (line_as (number_after (codes "Periods_per_day:") 1 48) (left past (n + 1 + 1 + 1) (left_4 i rest))) _ (i.periods, left past (n + 1 + 1 + 1 + 1) (left_5 i rest))
    (count-back past (n + 1 + 1 + 1) (codes "Periods_per_day:") 1 48 i.periods (left_5 i rest) is.some_periods is.few_periods (omega arith))
    ∙ bind-ok (line_as (number_after (codes "Curricula:") 0 1000) (left past (n + 1 + 1 + 1 + 1) (left_5 i rest))) _ (length i.curricula, left past (n + 1 + 1 + 1 + 1 + 1) (left_6 i rest))
    (count-back past (n + 1 + 1 + 1 + 1) (codes "Curricula:") 0 1000 (length i.curricula) (left_6 i rest) (omega arith) is.few_curricula (omega arith))
    ∙ bind-ok (line_as (number_after (codes "Constraints:") 0 100000) (left past (n + 1 + 1 + 1 + 1 + 1) (left_6 i rest))) _ (length i.constraints, left past (n + 1 + 1 + 1 + 1 + 1 + 1) rest)
    (count-back past (n + 1 + 1 + 1 + 1 + 1) (codes "Constraints:") 0 100000 (length i.constraints) rest (omega arith) is.few_constraints (omega arith))

-- ---- the sections

-- what is left of a file after each of its sections
abbrev after_curricula : Instance → List (List (List ℕ))
after_curricula i = map (constraint_line i) i.constraints ++ section_lines (codes "END.") []

abbrev after_rooms : Instance → List (List (List ℕ))
after_rooms i = map (curriculum_line i) i.curricula ++ section_lines (codes "UNAVAILABILITY_CONSTRAINTS:") (after_curricula i)

abbrev after_courses : Instance → List (List (List ℕ))
after_courses i = map room_line i.rooms ++ section_lines (codes "CURRICULA:") (after_rooms i)

abbrev from_courses : Instance → List (List (List ℕ))
from_courses i = section_lines (codes "COURSES:") (map course_line i.courses ++ section_lines (codes "ROOMS:") (after_courses i))

courses_of-back : (past n : ℕ) (i : Instance) → IsInstance i
    → courses_of (length i.courses) (left past n (from_courses i)) ≡ Ok (i.courses, left past (n + 1 + 1 + length i.courses + 2) (after_courses i))
courses_of-back past n i is =
    section-back (codes "ROOMS:") (length i.courses) course_after course_line past (n + 1 + 1) (after_courses i) [] i.courses refl (omega arith) (courses-back [] i.courses is.courses is.course_names)

abbrev parts : Instance → Sections
parts i = record { courses = i.courses; rooms = i.rooms; curricula = i.curricula; constraints = i.constraints }

sections-back : (past n : ℕ) (i : Instance) → IsInstance i → sections_of (sizes i) (left past n (from_courses i)) ≡ Ok (parts i, record { rows = []; past = past })
sections-back past n i is =
    let a = n + 1 + 1 + length i.courses + 2 in
    let b = a + length i.rooms + 2 in
    let c = b + length i.curricula + 2 in
    bind-ok (courses_of (length i.courses) (left past n (from_courses i))) _ (i.courses, left past a (after_courses i)) (courses_of-back past n i is)
    ∙ bind-ok (section_of (codes "CURRICULA:") (length i.rooms) room_after (left past a (after_courses i))) _ (i.rooms, left past b (after_rooms i))
    (section-back (codes "CURRICULA:") (length i.rooms) room_after room_line past a (after_rooms i) [] i.rooms refl (omega arith) (rooms-back [] i.rooms is.rooms is.room_names))
    ∙ bind-ok (curricula_of (course_names i.courses) (length i.curricula) (left past b (after_rooms i))) _ (i.curricula, left past c (after_curricula i))
    (section-back (codes "UNAVAILABILITY_CONSTRAINTS:") (length i.curricula) (λ before. curriculum_of (course_names i.courses)) (curriculum_line i) past b (after_curricula i) [] i.curricula refl (omega arith) (curricula-back i is))
    ∙ bind-ok (constraints_of (course_names i.courses) (sizes i) (left past c (after_curricula i))) _ (i.constraints, record { rows = []; past = past })
    (section-back (codes "END.") (length i.constraints) (λ before. constraint_of (course_names i.courses) i.days i.periods) (constraint_line i) past c [] [] i.constraints refl (omega arith) (constraints-back i is))

abbrev read_lines : Unread → Result Instance LineFault
read_lines u = do
  title ← line_as title_of u
  sizes ← sizes_of title.1
  sections ← sections_of sizes.0 sizes.1
  _ ← end_of sections.1
  Ok (record { title = title.0; courses = sections.0.courses; rooms = sections.0.rooms; days = sizes.0.days; periods = sizes.0.periods; curricula = sections.0.curricula; constraints = sections.0.constraints })

lines-back : (i : Instance) → IsInstance i → (past : ℕ) → read_lines (left past 1 (instance_lines i)) ≡ Ok i
lines-back i is past =
    bind-ok (line_as title_of (left past 1 (instance_lines i))) _ (i.title, left past 2 (left_1 i (from_courses i))) (title-back past 1 i.title (left_1 i (from_courses i)) is.title)
    ∙ bind-ok (sizes_of (left past 2 (left_1 i (from_courses i)))) _ (sizes i, left past (2 + 1 + 1 + 1 + 1 + 1 + 1) (from_courses i)) (sizes-back past 2 i (from_courses i) is)
    ∙ bind-ok (sections_of (sizes i) (left past (2 + 1 + 1 + 1 + 1 + 1 + 1) (from_courses i))) _ (parts i, record { rows = []; past = past }) (sections-back past (2 + 1 + 1 + 1 + 1 + 1 + 1) i is)

-- ---- the fields of the lines

number-is_field : (n high : ℕ) → n ≤ high → high < 10 ^ 9 → is_field (decimal n) ≡ true
number-is_field n high l few = decimal-is_field n (omega arith)

fields-of : {A : Type 0} (test : A → Bool) (line : A → List (List ℕ)) → ((x : A) → test x ≡ true → list_all is_field (line x) ≡ true) → (xs : List A) → list_all test xs ≡ true → list_all (list_all is_field) (map line xs) ≡ true
fields-of test line each [] h = refl
fields-of test line each (x ∷ xs) h =
    let p = and_parts (test x) (list_all test xs) h in
    both (list_all is_field (line x)) (list_all (list_all is_field) (map line xs)) (each x p.0) (fields-of test line each xs p.1)

course-fields : (c : Course) → is_course c ≡ true → list_all is_field (course_line c) ≡ true
course-fields c h =
    let p = course_parts c h in
    rw (
      name-is_field c.name p.name,
      name-is_field c.teacher p.teacher,
      number-is_field c.lectures 1000 p.lectures (omega arith),
      number-is_field c.min_days 1000 p.min_days (omega arith),
      number-is_field c.students 1000000 p.students (omega arith),
    ) refl

room-fields : (r : Room) → is_room r ≡ true → list_all is_field (room_line r) ≡ true
room-fields r h =
    let p = room_parts r h in
    rw (name-is_field r.name p.name, number-is_field r.capacity 1000000 p.capacity (omega arith)) refl

member-fields : (i : Instance) (members : List ℕ) → IsInstance i → are_members (length i.courses) members ≡ true → list_all is_field (map (course_name i) members) ≡ true
member-fields i [] is h = refl
member-fields i (m ∷ members) is h =
    let p = and_parts _ (are_members (length i.courses) members) h in
    both (is_field (course_name i m)) (list_all is_field (map (course_name i) members)) (name-is_field (course_name i m) (course_name-is_name i m is (under m (length i.courses) p.0))) (member-fields i members is p.1)

curriculum-fields : (i : Instance) (c : Curriculum) → IsInstance i → is_curriculum (length i.courses) c ≡ true → list_all is_field (curriculum_line i c) ≡ true
curriculum-fields i c is h =
    let p = curriculum_parts (length i.courses) c h in
    rw (name-is_field c.name p.name, number-is_field (length c.members) 100 p.few (omega arith), member-fields i c.members is p.members) refl

constraint-fields : (i : Instance) (x : ℕ × ℕ × ℕ) → IsInstance i → is_constraint (length i.courses) i.days i.periods x ≡ true → list_all is_field (constraint_line i x) ≡ true
constraint-fields i x is h =
    let p = constraint_parts (length i.courses) i.days i.periods x h in
    rw (name-is_field (course_name i x.0) (course_name-is_name i x.0 is p.course), number-is_field x.1 14 (omega (arith, p.day, is.few_days)) (omega arith), number-is_field x.2 48 (omega (arith, p.period, is.few_periods)) (omega arith)) refl

title-fields : (title : List (List ℕ)) → list_all is_name title ≡ true → list_all is_field title ≡ true
title-fields [] h = refl
title-fields (word ∷ words) h =
    let p = and_parts (is_name word) (list_all is_name words) h in
    both (is_field word) (list_all is_field words) (name-is_field word p.0) (title-fields words p.1)

abbrev are_lines : List (List (List ℕ)) → Bool
are_lines = list_all (list_all is_field)

header-fields : (i : Instance) → IsInstance i → are_lines (header_lines i) ≡ true
header-fields i is =
    rw (
      title-fields i.title is.title,
      number-is_field (length i.courses) 1000 is.few_courses (omega arith),
      number-is_field (length i.rooms) 200 is.few_rooms (omega arith),
      number-is_field i.days 14 is.few_days (omega arith),
      number-is_field i.periods 48 is.few_periods (omega arith),
      number-is_field (length i.curricula) 1000 is.few_curricula (omega arith),
      number-is_field (length i.constraints) 100000 is.few_constraints (omega arith),
    ) refl

joined-lines : (xs ys : List (List (List ℕ))) → are_lines xs ≡ true → are_lines ys ≡ true → are_lines (xs ++ ys) ≡ true
joined-lines xs ys h k = list_all-append (list_all is_field) xs ys ∙ both (are_lines xs) (are_lines ys) h k

instance-fields : (i : Instance) → IsInstance i → are_lines (instance_lines i) ≡ true
instance-fields i is =
    let e = section_lines (codes "END.") [] in
    let d = section_lines (codes "UNAVAILABILITY_CONSTRAINTS:") (map (constraint_line i) i.constraints) in
    let c = section_lines (codes "CURRICULA:") (map (curriculum_line i) i.curricula) in
    let b = section_lines (codes "ROOMS:") (map room_line i.rooms) in
    let a = section_lines (codes "COURSES:") (map course_line i.courses) in
    joined-lines (header_lines i) (a ++ (b ++ (c ++ (d ++ e)))) (header-fields i is)
    (joined-lines a (b ++ (c ++ (d ++ e))) (fields-of is_course course_line course-fields i.courses is.courses)
    (joined-lines b (c ++ (d ++ e)) (fields-of is_room room_line room-fields i.rooms is.rooms)
    (joined-lines c (d ++ e) (fields-of (is_curriculum (length i.courses)) (curriculum_line i) (λ c h. curriculum-fields i c is h) i.curricula is.curricula)
    (joined-lines d e (fields-of (is_constraint (length i.courses) i.days i.periods) (constraint_line i) (λ x h. constraint-fields i x is h) i.constraints is.constraints) refl))))

-- what is written of an instance that a reader gives is read as that instance
pub read_back : (i : Instance) → IsInstance i → ctt_of (text_of i) ≡ Ok i
read_back i is = ap read_lines (unread-written (instance_lines i) (instance-fields i is)) ∙ lines-back i is (length (instance_lines i) + 1)
