-- Written lines are read again: the entries of a section.
use Rattle.std.proofs.Common.{ℕ, ◌≡◌, ◌≤◌, ◌<◌, ◌+◌, ◌++◌, Bool, true, false, not, List, [], ◌∷◌, length, map, get_or, refl, ap, sym, ◌∙◌, arith, append_assoc, append-nil, length-append, ◌≢◌}
use Rattle.std.specs.Prelude.{◌&&◌, nat_le, nat_lt, Result, Some, Ok, bytes_eq, codes, decimal}
use Rattle.std.specs.List.{list_all}
use Rattle.std.proofs.lemmas.Bool.{and_parts, not-true, eq-eqb, ne_eqb}
use Rattle.std.proofs.lemmas.List.{length-map, map-append}
use Rattle.input_core.specs.Lines.{is_alone}
use Rattle.input_core.specs.Rows.{onto_rows}
use Rattle.input_core.specs.Fields.{name_of, number_in, number_below, or_fault}
use Rattle.input_core.specs.declared.cursors.Row.{Row}
use Rattle.input_core.specs.declared.faults.LineFault.{LineFault}
use Rattle.input_core.specs.declared.faults.LineKind.{LineKind}
use Rattle.input_core.specs.declared.faults.LineKind.TheVariants.{UnknownCourse}
use Rattle.input_core.proofs.ChainLemmas.{bind-ok}
use Rattle.text_lines.specs.Written.{rows_of}
use Rattle.ctt_reader.specs.Names.{has_name, place_of, course_at}
use Rattle.ctt_reader.specs.Naming.{no_course, course_name}
use Rattle.ctt_reader.specs.Entries.{course_of, course_names, new_course, course_after, unless_dash, room_of, room_names, new_room, room_after, members_of, is_other_count, checked_head, curriculum_head, curriculum_of, constraint_of}
use Rattle.ctt_reader.specs.Grammar.{section}
use Rattle.ctt_reader.specs.Promised.{is_name, are_different, is_course, is_room, is_curriculum, is_constraint, are_members, IsInstance}
use Rattle.ctt_reader.specs.Writing.{course_line, room_line, curriculum_line, constraint_line, section_lines}
use Rattle.ctt_reader.specs.declared.instance.Instance.{Instance}
use Rattle.ctt_reader.specs.declared.instance.Course.{Course}
use Rattle.ctt_reader.specs.declared.instance.Room.{Room}
use Rattle.ctt_reader.specs.declared.instance.Curriculum.{Curriculum}
use Rattle.ctt_reader.proofs.DifferentLemmas.{new-among}
use Rattle.ctt_reader.proofs.FieldsBackLemmas.{number_in-back, number_below-back, at_most, under, name_of-back, place_of-back, named-at, passes-at}

-- the line of an entry is none that ends its section, and is read as the entry
pub record IsBack {A : Type 0} (end : List ℕ) (entry : List A → List (List ℕ) → Result A LineKind) (line : A → List (List ℕ)) (before : List A) (x : A) : Type 0 where
  pub other : is_alone end (line x) ≡ false
  pub row : (n : ℕ) (rows : List (Result Row LineFault)) → onto_rows n (line x) rows ≡ Ok (record { line = n; fields = line x }) ∷ rows
  pub is : entry before (line x) ≡ Ok x

abbrev pub AreBack : {A : Type 0} → List ℕ → (List A → List (List ℕ) → Result A LineKind) → (A → List (List ℕ)) → List A → List A → Type 0
AreBack end entry line before [] = Unit {0}
AreBack end entry line before (x ∷ xs) = IsBack end entry line before x × AreBack end entry line (before ++ x ∷ []) xs

pub section-back : {A : Type 0} (end : List ℕ) (wanted : ℕ) (entry : List A → List (List ℕ) → Result A LineKind) (line : A → List (List ℕ)) (past n : ℕ) (rest : List (List (List ℕ))) (before xs : List A)
    → bytes_eq end end ≡ true → length before + length xs ≡ wanted → AreBack end entry line before xs
    → section end wanted entry past before (rows_of n (map line xs ++ section_lines end rest)) ≡ Ok (before ++ xs, record { rows = rows_of (n + length xs + 2) rest; past = past })
section-back {A} end wanted entry line past n rest before [] same count are =
    let full : length before ≡ wanted = omega arith in
    let all : before ++ [] ≡ before = append-nil before in
    let place : n + length {A = A} [] + 2 ≡ n + 1 + 1 = omega arith in
    rw (same, eq-eqb (length before) wanted full, all, place) refl
section-back end wanted entry line past n rest before (x ∷ xs) same count are =
    let b = are.0 in
    let more : length before ≢ wanted = λ e. absurd (omega arith) in
    let grown : length (before ++ x ∷ []) + length xs ≡ wanted = omega (arith, length-append before (x ∷ []), count) in
    let place : n + length (x ∷ xs) + 2 ≡ n + 1 + length xs + 2 = omega arith in
    let all : before ++ x ∷ xs ≡ (before ++ x ∷ []) ++ xs = sym (append_assoc before (x ∷ []) xs) in
    ap (section end wanted entry past before) (b.row n (rows_of (n + 1) (map line xs ++ section_lines end rest)))
    ∙ rw (b.other, ne_eqb (length before) wanted more, b.is) (rw (all, place) (section-back end wanted entry line past (n + 1) rest (before ++ x ∷ []) xs same grown are.1))

-- an entry that is read whatever stands before it
pub are_back-always : {A : Type 0} (end : List ℕ) (entry : List (List ℕ) → Result A LineKind) (line : A → List (List ℕ)) (test : A → Bool)
    → ((before : List A) (x : A) → test x ≡ true → IsBack end (λ before. entry) line before x) → (before xs : List A) → list_all test xs ≡ true → AreBack end (λ before. entry) line before xs
are_back-always end entry line test each before [] h = tt
are_back-always end entry line test each before (x ∷ xs) h =
    let p = and_parts (test x) (list_all test xs) h in
    (each before x p.0, are_back-always end entry line test each (before ++ x ∷ []) xs p.1)

-- ---- courses

pub record CourseParts (c : Course) : Type 0 where
  pub name : is_name c.name ≡ true
  pub teacher : is_name c.teacher ≡ true
  pub lectures : c.lectures ≤ 1000
  pub min_days : c.min_days ≤ 1000
  pub students : c.students ≤ 1000000

pub course_parts : (c : Course) → is_course c ≡ true → CourseParts c
course_parts c h =
    let s = and_parts (is_name c.name && is_name c.teacher && nat_le c.lectures 1000 && nat_le c.min_days 1000) (nat_le c.students 1000000) h in
    let d = and_parts (is_name c.name && is_name c.teacher && nat_le c.lectures 1000) (nat_le c.min_days 1000) s.0 in
    let l = and_parts (is_name c.name && is_name c.teacher) (nat_le c.lectures 1000) d.0 in
    let n = and_parts (is_name c.name) (is_name c.teacher) l.0 in
    record { name = n.0; teacher = n.1; lectures = at_most c.lectures 1000 l.1; min_days = at_most c.min_days 1000 d.1; students = at_most c.students 1000000 s.1 }

course_of-back : (c : Course) → is_course c ≡ true → course_of (course_line c) ≡ Ok c
course_of-back c h =
    let p = course_parts c h in
    bind-ok (name_of c.name) _ c.name (name_of-back c.name p.name)
    ∙ bind-ok (name_of c.teacher) _ c.teacher (name_of-back c.teacher p.teacher)
    ∙ bind-ok (number_in 0 1000 (decimal c.lectures)) _ c.lectures (number_in-back 0 1000 c.lectures (omega arith) p.lectures (omega arith))
    ∙ bind-ok (number_in 0 1000 (decimal c.min_days)) _ c.min_days (number_in-back 0 1000 c.min_days (omega arith) p.min_days (omega arith))
    ∙ bind-ok (number_in 0 1000000 (decimal c.students)) _ c.students (number_in-back 0 1000000 c.students (omega arith) p.students (omega arith))

pub courses-back : (before xs : List Course) → list_all is_course xs ≡ true → are_different (course_names (before ++ xs)) ≡ true → AreBack (codes "ROOMS:") course_after course_line before xs
courses-back before [] h d = tt
courses-back before (c ∷ xs) h d =
    let p = and_parts (is_course c) (list_all is_course xs) h in
    let names : course_names (before ++ c ∷ xs) ≡ course_names before ++ c.name ∷ course_names xs = map-append (λ (x : Course). x.name) before (c ∷ xs) in
    let fresh : has_name c.name (course_names before) ≡ false = new-among c.name (course_names before) (course_names xs) (ap are_different (sym names) ∙ d) in
    let regroup : (before ++ c ∷ []) ++ xs ≡ before ++ c ∷ xs = append_assoc before (c ∷ []) xs in (
      record { other = refl; row = λ n rows. refl; is = bind-ok (course_of (course_line c)) (new_course (course_names before)) c (course_of-back c p.0) ∙ rw fresh refl },
      courses-back (before ++ c ∷ []) xs p.1 (ap (λ cs. are_different (course_names cs)) regroup ∙ d),
    )

-- ---- rooms

pub record RoomParts (r : Room) : Type 0 where
  pub name : is_name r.name ≡ true
  pub other : bytes_eq r.name (codes "-") ≡ false
  pub capacity : r.capacity ≤ 1000000

pub room_parts : (r : Room) → is_room r ≡ true → RoomParts r
room_parts r h =
    let c = and_parts (is_name r.name && not (bytes_eq r.name (codes "-"))) (nat_le r.capacity 1000000) h in
    let n = and_parts (is_name r.name) (not (bytes_eq r.name (codes "-"))) c.0 in
    record { name = n.0; other = not-true (bytes_eq r.name (codes "-")) n.1; capacity = at_most r.capacity 1000000 c.1 }

room_of-back : (r : Room) → is_room r ≡ true → room_of (room_line r) ≡ Ok r
room_of-back r h =
    let p = room_parts r h in
    let named : unless_dash r.name ≡ Ok r.name = rw p.other refl in
    bind-ok (name_of r.name) _ r.name (name_of-back r.name p.name)
    ∙ bind-ok (unless_dash r.name) _ r.name named
    ∙ bind-ok (number_in 0 1000000 (decimal r.capacity)) _ r.capacity (number_in-back 0 1000000 r.capacity (omega arith) p.capacity (omega arith))

pub rooms-back : (before xs : List Room) → list_all is_room xs ≡ true → are_different (room_names (before ++ xs)) ≡ true → AreBack (codes "CURRICULA:") room_after room_line before xs
rooms-back before [] h d = tt
rooms-back before (r ∷ xs) h d =
    let p = and_parts (is_room r) (list_all is_room xs) h in
    let names : room_names (before ++ r ∷ xs) ≡ room_names before ++ r.name ∷ room_names xs = map-append (λ (x : Room). x.name) before (r ∷ xs) in
    let fresh : has_name r.name (room_names before) ≡ false = new-among r.name (room_names before) (room_names xs) (ap are_different (sym names) ∙ d) in
    let regroup : (before ++ r ∷ []) ++ xs ≡ before ++ r ∷ xs = append_assoc before (r ∷ []) xs in (
      record { other = refl; row = λ n rows. refl; is = bind-ok (room_of (room_line r)) (new_room (room_names before)) r (room_of-back r p.0) ∙ rw fresh refl },
      rooms-back (before ++ r ∷ []) xs p.1 (ap (λ rs. are_different (room_names rs)) regroup ∙ d),
    )

-- ---- what names courses

pub course_name-is_name : (i : Instance) (k : ℕ) → IsInstance i → k < length i.courses → is_name (course_name i k) ≡ true
course_name-is_name i k is l = (course_parts (get_or i.courses k no_course) (passes-at is_course i.courses k no_course is.courses l)).name

pub course_at-back : (i : Instance) (k : ℕ) → IsInstance i → k < length i.courses → course_at (course_names i.courses) (course_name i k) ≡ Ok k
course_at-back i k is l =
    let here : get_or (course_names i.courses) k [] ≡ course_name i k = named-at (λ (c : Course). c.name) i.courses k no_course [] l in
    let there : k < length (course_names i.courses) = omega (arith, length-map i.courses (λ (c : Course). c.name), l) in
    let placed : place_of (course_name i k) (course_names i.courses) ≡ Some k = ap (λ x. place_of x (course_names i.courses)) (sym here) ∙ place_of-back (course_names i.courses) k [] is.course_names there in
    bind-ok (name_of (course_name i k)) _ (course_name i k) (name_of-back (course_name i k) (course_name-is_name i k is l)) ∙ ap (λ o. or_fault o UnknownCourse) placed

-- ---- curricula

members-back : (i : Instance) (members : List ℕ) → IsInstance i → are_members (length i.courses) members ≡ true → members_of (course_names i.courses) (map (course_name i) members) ≡ Ok members
members-back i [] is h = refl
members-back i (m ∷ members) is h =
    let p = and_parts (nat_lt m (length i.courses)) (are_members (length i.courses) members) h in
    bind-ok (course_at (course_names i.courses) (course_name i m)) _ m (course_at-back i m is (under m (length i.courses) p.0))
    ∙ bind-ok (members_of (course_names i.courses) (map (course_name i) members)) _ members (members-back i members is p.1)

pub record CurriculumParts (n : ℕ) (c : Curriculum) : Type 0 where
  pub name : is_name c.name ≡ true
  pub few : length c.members ≤ 100
  pub members : are_members n c.members ≡ true

pub curriculum_parts : (n : ℕ) (c : Curriculum) → is_curriculum n c ≡ true → CurriculumParts n c
curriculum_parts n c h =
    let m = and_parts (is_name c.name && nat_le (length c.members) 100) (are_members n c.members) h in
    let f = and_parts (is_name c.name) (nat_le (length c.members) 100) m.0 in
    record { name = f.0; few = at_most (length c.members) 100 f.1; members = m.1 }

head-back : (name : List ℕ) (n found : ℕ) → is_name name ≡ true → n ≤ 100 → n ≡ found → checked_head name (decimal n) found ≡ Ok tt
head-back name n found h few same =
    let count : number_in 0 100 (decimal n) ≡ Ok n = number_in-back 0 100 n (omega arith) few (omega arith) in
    let equal : is_other_count (number_in 0 100 (decimal n)) found ≡ false = ap (λ r. is_other_count r found) count ∙ ap not (eq-eqb n found same) in
    rw equal (bind-ok (name_of name) _ name (name_of-back name h) ∙ bind-ok (number_in 0 100 (decimal n)) _ n count)

curriculum_of-back : (i : Instance) (c : Curriculum) → IsInstance i → is_curriculum (length i.courses) c ≡ true → curriculum_of (course_names i.courses) (curriculum_line i c) ≡ Ok c
curriculum_of-back i c is h =
    let p = curriculum_parts (length i.courses) c h in
    let head : curriculum_head (curriculum_line i c) ≡ Ok (c.name, map (course_name i) c.members) =
    bind-ok (checked_head c.name (decimal (length c.members)) (length (map (course_name i) c.members))) _ tt
    (head-back c.name (length c.members) (length (map (course_name i) c.members)) p.name p.few (sym (length-map c.members (course_name i)))) in
    bind-ok (curriculum_head (curriculum_line i c)) _ (c.name, map (course_name i) c.members) head
    ∙ bind-ok (members_of (course_names i.courses) (map (course_name i) c.members)) _ c.members (members-back i c.members is p.members)

pub curricula-back : (i : Instance) → IsInstance i → AreBack (codes "UNAVAILABILITY_CONSTRAINTS:") (λ before. curriculum_of (course_names i.courses)) (curriculum_line i) [] i.curricula
curricula-back i is =
    are_back-always (codes "UNAVAILABILITY_CONSTRAINTS:") (curriculum_of (course_names i.courses)) (curriculum_line i) (is_curriculum (length i.courses))
    (λ before c h. record { other = refl; row = λ n rows. refl; is = curriculum_of-back i c is h }) [] i.curricula is.curricula

-- ---- constraints

pub record ConstraintParts (courses days periods : ℕ) (x : ℕ × ℕ × ℕ) : Type 0 where
  pub course : x.0 < courses
  pub day : x.1 < days
  pub period : x.2 < periods

pub constraint_parts : (courses days periods : ℕ) (x : ℕ × ℕ × ℕ) → is_constraint courses days periods x ≡ true → ConstraintParts courses days periods x
constraint_parts courses days periods x h =
    let p = and_parts (nat_lt x.0 courses && nat_lt x.1 days) (nat_lt x.2 periods) h in
    let d = and_parts (nat_lt x.0 courses) (nat_lt x.1 days) p.0 in
    record { course = under x.0 courses d.0; day = under x.1 days d.1; period = under x.2 periods p.1 }

constraint_of-back : (i : Instance) (x : ℕ × ℕ × ℕ) → IsInstance i → is_constraint (length i.courses) i.days i.periods x ≡ true
    → constraint_of (course_names i.courses) i.days i.periods (constraint_line i x) ≡ Ok x
constraint_of-back i x is h =
    let p = constraint_parts (length i.courses) i.days i.periods x h in
    bind-ok (course_at (course_names i.courses) (course_name i x.0)) _ x.0 (course_at-back i x.0 is p.course)
    ∙ bind-ok (number_below i.days (decimal x.1)) _ x.1 (number_below-back i.days x.1 p.day (omega (arith, is.few_days)))
    ∙ bind-ok (number_below i.periods (decimal x.2)) _ x.2 (number_below-back i.periods x.2 p.period (omega (arith, is.few_periods)))

pub constraints-back : (i : Instance) → IsInstance i → AreBack (codes "END.") (λ before. constraint_of (course_names i.courses) i.days i.periods) (constraint_line i) [] i.constraints
constraints-back i is =
    are_back-always (codes "END.") (constraint_of (course_names i.courses) i.days i.periods) (constraint_line i) (is_constraint (length i.courses) i.days i.periods)
    (λ before x h. record { other = refl; row = λ n rows. refl; is = constraint_of-back i x is h }) [] i.constraints is.constraints
