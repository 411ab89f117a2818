-- The marks of a page are those of its own text.
use Rattle.std.proofs.Common.{ℕ, ◌≡◌, ◌+◌, ◌-◌, arith, inl, inr, ◌||◌, refl, sym, ◌∙◌, ap, ap₂, zero, suc, List, [], ◌∷◌, ◌++◌, Bool, true, false, not, cond, length, map, get_or}
use Rattle.std.specs.Prelude.{◌==◌, nat_lt, codes, decimal}
use Rattle.std.specs.List.{flat_map, list_any, position_or_len}
use Rattle.std.proofs.lemmas.Bool.{cases_Bool, true≢false}
use Rattle.std.proofs.lemmas.List.{length-map}
use Rattle.ctt_reader.specs.Naming.{no_course, no_room}
use Rattle.ctt_reader.specs.declared.instance.Instance.{Instance}
use Rattle.ctt_reader.specs.declared.instance.Course.{Course}
use Rattle.ctt_reader.specs.declared.instance.Room.{Room}
use Rattle.ctt_reader.specs.declared.instance.Curriculum.{Curriculum}
use Rattle.timed_solution.specs.declared.times.Meeting.{Meeting}
use Rattle.week_page.specs.Escaped.{escaped, escaped_byte, is_mark}
use Rattle.week_page.specs.Style.{style_text}
use Rattle.week_page.specs.Lists.{each_below}
use Rattle.week_page.specs.Cells.{in_cell, of_course, without_room}
use Rattle.week_page.specs.Page.{course_at, room_at, no_curriculum, first_listing, colour, curriculum_name, curriculum_text, named_course, course_text, over_text, entry_text, clash_text, cell_text, room_head, row_text, day_head, day_text, unroomed_line, unroomed_text, room_text, meeting_text, course_row, courses_head, courses_text, title_text, before_title, head_text, page_of}
use Rattle.week_page.specs.Markup.{marks, nameless_course, nameless_room, nameless_curriculum, nameless, NamesHaveNoMarks, NamesAddNoMarks}

-- ---- texts in pieces

marks-append : (a b : List ℕ) → marks (a ++ b) ≡ marks a ++ marks b
marks-append [] b = refl
marks-append (x ∷ a) b = kept (is_mark x) (marks-append a b)
  where
    kept : (t : Bool) → marks (a ++ b) ≡ marks a ++ marks b → cond t (x ∷ marks (a ++ b)) (marks (a ++ b)) ≡ cond t (x ∷ marks a) (marks a) ++ marks b
    kept true rest = ap (λ (xs : List ℕ). x ∷ xs) rest
    kept false rest = rest

-- two texts have the same marks where their pieces have
both : (a b c d : List ℕ) → marks a ≡ marks c → marks b ≡ marks d → marks (a ++ b) ≡ marks (c ++ d)
both a b c d e f = marks-append a b ∙ ap₂ (λ (xs ys : List ℕ). xs ++ ys) e f ∙ sym (marks-append c d)

before : (a b d : List ℕ) → marks b ≡ marks d → marks (a ++ b) ≡ marks (a ++ d)
before a b d f = both a b a d refl f

behind : (a c b : List ℕ) → marks a ≡ marks c → marks (a ++ b) ≡ marks (c ++ b)
behind a c b e = both a b c b e refl

each-marks : (f g : ℕ → List ℕ) (n : ℕ) → ((k : ℕ) → marks (f k) ≡ marks (g k)) → marks (each_below f n) ≡ marks (each_below g n)
each-marks f g zero same = refl
each-marks f g (suc n) same = both (each_below f n) (f n) (each_below g n) (g n) (each-marks f g n same) (same n)

flat-marks : {X : Type 0} (f g : X → List ℕ) (xs : List X) → ((x : X) → marks (f x) ≡ marks (g x)) → marks (flat_map f xs) ≡ marks (flat_map g xs)
flat-marks f g [] same = refl
flat-marks f g (x ∷ xs) same = both (f x) (flat_map f xs) (g x) (flat_map g xs) (same x) (flat-marks f g xs same)

flat-map-marks : {X : Type 0} (f : X → List ℕ) (h : X → X) (xs : List X) → ((x : X) → marks (f x) ≡ marks (f (h x))) → marks (flat_map f xs) ≡ marks (flat_map f (map h xs))
flat-map-marks f h [] same = refl
flat-map-marks f h (x ∷ xs) same = both (f x) (flat_map f xs) (f (h x)) (flat_map f (map h xs)) (same x) (flat-map-marks f h xs same)

-- ---- names

byte_marks : (b : ℕ) → marks (escaped_byte b) ≡ []
byte_marks b = elim (cases_Bool (b == 38)) [
  | inl h ↦ rw (h) refl
  | inr h ↦ elim (cases_Bool (b == 60)) [
    | inl h1 ↦ rw (h, h1) refl
    | inr h1 ↦ elim (cases_Bool (b == 62)) [
      | inl h2 ↦ rw (h, h1, h2) refl
      | inr h2 ↦ elim (cases_Bool (b == 34)) [
        | inl h3 ↦ rw (h, h1, h2, h3) refl
        | inr h3 ↦ elim (cases_Bool (b == 39)) [
          | inl h4 ↦ rw (h, h1, h2, h3, h4) refl
          | inr h4 ↦ rw (h, h1, h2, h3, h4, h1, h2, h3, h4) refl
        ]
      ]
    ]
  ]
]

name_marks : (name : List ℕ) → marks (escaped name) ≡ []
unfolding escaped
name_marks [] = refl
name_marks (b ∷ name) = marks-append (escaped_byte b) (flat_map escaped_byte name) ∙ ap₂ (λ (xs ys : List ℕ). xs ++ ys) (byte_marks b) (name_marks name)

same_names : (n m : List ℕ) → marks (escaped n) ≡ marks (escaped m)
same_names n m = name_marks n ∙ sym (name_marks m)

none_passes : (xs : List ℕ) → marks xs ≡ [] → list_any is_mark xs ≡ false
none_passes [] h = refl
none_passes (x ∷ xs) h = found (is_mark x) h (none_passes xs)
  where
    found : (t : Bool) → cond t (x ∷ marks xs) (marks xs) ≡ [] → (marks xs ≡ [] → list_any is_mark xs ≡ false) → (t || list_any is_mark xs) ≡ false
    found true h rest = absurd (omega (arith, ap (λ (ys : List ℕ). length ys) h))
    found false h rest = rest h

pub names_have_no_marks : NamesHaveNoMarks
names_have_no_marks = λ name. none_passes (escaped name) (name_marks name)

-- ---- what is looked up has no name

at-map : {X : Type 0} (h : X → X) (xs : List X) (k : ℕ) (d : X) → h d ≡ d → get_or (map h xs) k d ≡ h (get_or xs k d)
at-map h [] k d e = sym e
at-map h (x ∷ xs) zero d e = refl
at-map h (x ∷ xs) (suc k) d e = at-map h xs k d e

course-is : (i : Instance) (c : ℕ) → course_at (nameless i) c ≡ nameless_course (course_at i c)
course-is i c = at-map nameless_course i.courses c no_course refl

room-is : (i : Instance) (r : ℕ) → room_at (nameless i) r ≡ nameless_room (room_at i r)
room-is i r = at-map nameless_room i.rooms r no_room refl

first-map : (c : ℕ) (qs : List Curriculum) → position_or_len (λ q. list_any (λ m. m == c) q.members) (map nameless_curriculum qs) ≡ position_or_len (λ q. list_any (λ m. m == c) q.members) qs
first-map c [] = refl
first-map c (q ∷ qs) = ap (λ n. cond (not (list_any (λ m. m == c) q.members)) (1 + n) 0) (first-map c qs)

-- ---- the pieces

name-of : (q r : Curriculum) → marks (curriculum_name q) ≡ marks (curriculum_name r)
unfolding curriculum_name
name-of q r = behind (codes "<i>" ++ escaped q.name) (codes "<i>" ++ escaped r.name) (codes "</i>") (before (codes "<i>") (escaped q.name) (escaped r.name) (same_names q.name r.name))

curriculum-marks : (i : Instance) (q p : ℕ) → p ≡ q → marks (curriculum_text i q) ≡ marks (curriculum_text (nameless i) p)
unfolding curriculum_text
curriculum-marks i q p e =
    chosen (nat_lt q (length i.curricula)) (nat_lt p (length (map nameless_curriculum i.curricula))) (sym (ap₂ nat_lt e (length-map i.curricula nameless_curriculum)))
  where
    chosen : (s t : Bool) → s ≡ t → marks (cond s (curriculum_name (get_or i.curricula q no_curriculum)) []) ≡ marks (cond t (curriculum_name (get_or (map nameless_curriculum i.curricula) p no_curriculum)) [])
    chosen true true h = name-of (get_or i.curricula q no_curriculum) (get_or (map nameless_curriculum i.curricula) p no_curriculum)
    chosen false false h = refl
    chosen true false h = absurd (true≢false h)
    chosen false true h = absurd (true≢false (sym h))

colour-is : (i : Instance) (q p : ℕ) → p ≡ q → colour i q ≡ colour (nameless i) p
unfolding colour
colour-is i q p e = rw (e, length-map i.curricula nameless_curriculum) refl

named-marks : (c d : Course) → c.students ≡ d.students → marks (named_course c) ≡ marks (named_course d)
unfolding named_course
named-marks c d e =
    ap (λ n. marks (codes "\"><b>" ++ escaped c.name ++ codes "</b><small>" ++ decimal n ++ codes " students</small>")) e
    ∙ behind (codes "\"><b>" ++ escaped c.name ++ codes "</b><small>" ++ decimal d.students) (codes "\"><b>" ++ escaped d.name ++ codes "</b><small>" ++ decimal d.students) (codes " students</small>")
    (behind (codes "\"><b>" ++ escaped c.name ++ codes "</b><small>") (codes "\"><b>" ++ escaped d.name ++ codes "</b><small>") (decimal d.students)
    (behind (codes "\"><b>" ++ escaped c.name) (codes "\"><b>" ++ escaped d.name) (codes "</b><small>") (before (codes "\"><b>") (escaped c.name) (escaped d.name) (same_names c.name d.name))))

students-are : (i : Instance) (c : ℕ) → (course_at (nameless i) c).students ≡ (course_at i c).students
students-are i c = ap (λ (x : Course). x.students) (course-is i c)

course-marks : (i : Instance) (c : ℕ) → marks (course_text i c) ≡ marks (course_text (nameless i) c)
unfolding course_text
course-marks i c =
    let q = first_listing i c in
    let p = first_listing (nameless i) c in
    both (codes "<p class=\"" ++ colour i q ++ named_course (course_at i c)) (curriculum_text i q) (codes "<p class=\"" ++ colour (nameless i) p ++ named_course (course_at (nameless i) c)) (curriculum_text (nameless i) p)
    (both (codes "<p class=\"" ++ colour i q) (named_course (course_at i c)) (codes "<p class=\"" ++ colour (nameless i) p) (named_course (course_at (nameless i) c))
    (before (codes "<p class=\"") (colour i q) (colour (nameless i) p) (ap marks (colour-is i q p (first-map c i.curricula))))
    (named-marks (course_at i c) (course_at (nameless i) c) (sym (students-are i c))))
    (curriculum-marks i q p (first-map c i.curricula))

entry-marks : (i : Instance) (seats : ℕ) (x : Meeting) → marks (entry_text i seats x) ≡ marks (entry_text (nameless i) seats x)
unfolding entry_text
entry-marks i seats x =
    behind (course_text i x.course ++ over_text seats (course_at i x.course).students) (course_text (nameless i) x.course ++ over_text seats (course_at (nameless i) x.course).students) (codes "</p>")
    (both (course_text i x.course) (over_text seats (course_at i x.course).students) (course_text (nameless i) x.course) (over_text seats (course_at (nameless i) x.course).students)
    (course-marks i x.course) (ap (λ n. marks (over_text seats n)) (sym (students-are i x.course))))

cell-marks : (i : Instance) (seats : ℕ) (xs : List Meeting) → marks (cell_text i seats xs) ≡ marks (cell_text (nameless i) seats xs)
unfolding cell_text
cell-marks i seats xs =
    behind (clash_text (length xs) ++ flat_map (entry_text i seats) xs) (clash_text (length xs) ++ flat_map (entry_text (nameless i) seats) xs) (codes "</td>")
    (before (clash_text (length xs)) (flat_map (entry_text i seats) xs) (flat_map (entry_text (nameless i) seats) xs) (flat-marks (entry_text i seats) (entry_text (nameless i) seats) xs (entry-marks i seats)))

room-marks : (r : Room) → marks (room_head r) ≡ marks (room_head (nameless_room r))
unfolding room_head
room-marks r =
    behind (codes "<tr><th>" ++ escaped r.name ++ codes "<small>" ++ decimal r.capacity) (codes "<tr><th>" ++ escaped [] ++ codes "<small>" ++ decimal r.capacity) (codes " seats</small></th>")
    (behind (codes "<tr><th>" ++ escaped r.name ++ codes "<small>") (codes "<tr><th>" ++ escaped [] ++ codes "<small>") (decimal r.capacity)
    (behind (codes "<tr><th>" ++ escaped r.name) (codes "<tr><th>" ++ escaped []) (codes "<small>") (before (codes "<tr><th>") (escaped r.name) (escaped []) (same_names r.name []))))

seats-are : (i : Instance) (r : ℕ) → (room_at (nameless i) r).capacity ≡ (room_at i r).capacity
seats-are i r = ap (λ (x : Room). x.capacity) (room-is i r)

row-marks : (i : Instance) (cell : ℕ → ℕ → ℕ → List Meeting) (d r : ℕ) → marks (row_text i cell d r) ≡ marks (row_text (nameless i) cell d r)
unfolding row_text
row-marks i cell d r =
    let f = λ (p : ℕ). cell_text i (room_at i r).capacity (cell d r p) in
    let g = λ (p : ℕ). cell_text (nameless i) (room_at (nameless i) r).capacity (cell d r p) in
    behind (room_head (room_at i r) ++ each_below f i.periods) (room_head (room_at (nameless i) r) ++ each_below g i.periods) (codes "</tr>\n")
    (both (room_head (room_at i r)) (each_below f i.periods) (room_head (room_at (nameless i) r)) (each_below g i.periods)
    (room-marks (room_at i r) ∙ ap (λ (x : Room). marks (room_head x)) (sym (room-is i r)))
    (each-marks f g i.periods (λ p. cell-marks i (room_at i r).capacity (cell d r p) ∙ ap (λ n. marks (cell_text (nameless i) n (cell d r p))) (sym (seats-are i r)))))

head-is : (i : Instance) (d : ℕ) → day_head i d ≡ day_head (nameless i) d
unfolding day_head
head-is i d = refl

day-marks : (i : Instance) (cell : ℕ → ℕ → ℕ → List Meeting) (d : ℕ) → marks (day_text i cell d) ≡ marks (day_text (nameless i) cell d)
unfolding day_text
day-marks i cell d =
    let rows = each_below (row_text i cell d) (length i.rooms) in
    let others = each_below (row_text (nameless i) cell d) (length (map nameless_room i.rooms)) in
    behind (day_head i d ++ rows) (day_head (nameless i) d ++ others) (codes "</tbody>\n</table>\n</div>\n</section>\n")
    (both (day_head i d) rows (day_head (nameless i) d) others (ap marks (head-is i d))
    (each-marks (row_text i cell d) (row_text (nameless i) cell d) (length i.rooms) (row-marks i cell d) ∙ ap (λ n. marks (each_below (row_text (nameless i) cell d) n)) (sym (length-map i.rooms nameless_room))))

line-marks : (i : Instance) (x : Meeting) → marks (unroomed_line i x) ≡ marks (unroomed_line (nameless i) x)
unfolding unroomed_line
line-marks i x =
    let n = (course_at i x.course).name in
    let m = (course_at (nameless i) x.course).name in
    behind (codes "<li>" ++ escaped n ++ codes ": day " ++ decimal x.day ++ codes ", period " ++ decimal x.period) (codes "<li>" ++ escaped m ++ codes ": day " ++ decimal x.day ++ codes ", period " ++ decimal x.period) (codes "</li>\n")
    (behind (codes "<li>" ++ escaped n ++ codes ": day " ++ decimal x.day ++ codes ", period ") (codes "<li>" ++ escaped m ++ codes ": day " ++ decimal x.day ++ codes ", period ") (decimal x.period)
    (behind (codes "<li>" ++ escaped n ++ codes ": day " ++ decimal x.day) (codes "<li>" ++ escaped m ++ codes ": day " ++ decimal x.day) (codes ", period ")
    (behind (codes "<li>" ++ escaped n ++ codes ": day ") (codes "<li>" ++ escaped m ++ codes ": day ") (decimal x.day)
    (behind (codes "<li>" ++ escaped n) (codes "<li>" ++ escaped m) (codes ": day ") (before (codes "<li>") (escaped n) (escaped m) (same_names n m))))))

unroomed-marks : (i : Instance) (xs : List Meeting) → marks (unroomed_text i xs) ≡ marks (unroomed_text (nameless i) xs)
unfolding unroomed_text
unroomed-marks i xs =
    let a = codes "<h2>Meetings without a room: " ++ decimal (length xs) ++ codes "</h2>\n<ul>\n" in
    behind (a ++ flat_map (unroomed_line i) xs) (a ++ flat_map (unroomed_line (nameless i)) xs) (codes "</ul>\n")
    (before a (flat_map (unroomed_line i) xs) (flat_map (unroomed_line (nameless i)) xs) (flat-marks (unroomed_line i) (unroomed_line (nameless i)) xs (line-marks i)))

place-marks : (i : Instance) (e : ℕ) → marks (room_text i e) ≡ marks (room_text (nameless i) e)
unfolding room_text
place-marks i e = chosen (e == 0)
  where
    chosen : (t : Bool) → marks (cond t (codes "no room") (escaped (room_at i (e - 1)).name)) ≡ marks (cond t (codes "no room") (escaped (room_at (nameless i) (e - 1)).name))
    chosen true = refl
    chosen false = same_names (room_at i (e - 1)).name (room_at (nameless i) (e - 1)).name

meeting-marks : (i : Instance) (x : Meeting) → marks (meeting_text i x) ≡ marks (meeting_text (nameless i) x)
unfolding meeting_text
meeting-marks i x =
    let a = codes "<span>day " ++ decimal x.day ++ codes ", period " ++ decimal x.period ++ codes ", " in
    behind (a ++ room_text i x.room) (a ++ room_text (nameless i) x.room) (codes "</span>") (before a (room_text i x.room) (room_text (nameless i) x.room) (place-marks i x.room))

held-marks : (i : Instance) (held : ℕ → List Meeting) (c : ℕ) → marks (course_row i held c) ≡ marks (course_row (nameless i) held c)
unfolding course_row
held-marks i held c =
    let a = flat_map (meeting_text i) (held c) in
    let b = flat_map (meeting_text (nameless i)) (held c) in
    behind (codes "<tr><td>" ++ course_text i c ++ codes "</p></td><td>" ++ a) (codes "<tr><td>" ++ course_text (nameless i) c ++ codes "</p></td><td>" ++ b) (codes "</td></tr>\n")
    (both (codes "<tr><td>" ++ course_text i c ++ codes "</p></td><td>") a (codes "<tr><td>" ++ course_text (nameless i) c ++ codes "</p></td><td>") b
    (behind (codes "<tr><td>" ++ course_text i c) (codes "<tr><td>" ++ course_text (nameless i) c) (codes "</p></td><td>") (before (codes "<tr><td>") (course_text i c) (course_text (nameless i) c) (course-marks i c)))
    (flat-marks (meeting_text i) (meeting_text (nameless i)) (held c) (meeting-marks i)))

courses-marks : (i : Instance) (held : ℕ → List Meeting) → marks (courses_text i held) ≡ marks (courses_text (nameless i) held)
unfolding courses_text
courses-marks i held =
    let a = each_below (course_row i held) (length i.courses) in
    let b = each_below (course_row (nameless i) held) (length (map nameless_course i.courses)) in
    behind (courses_head ++ a) (courses_head ++ b) (codes "</tbody>\n</table>\n</div>\n")
    (before courses_head a b
    (each-marks (course_row i held) (course_row (nameless i) held) (length i.courses) (held-marks i held) ∙ ap (λ n. marks (each_below (course_row (nameless i) held) n)) (sym (length-map i.courses nameless_course))))

title-marks : (i : Instance) → marks (title_text i) ≡ marks (title_text (nameless i))
unfolding title_text
title-marks i =
    before (codes "Timetable:") (flat_map (λ (w : List ℕ). codes " " ++ escaped w) i.title) (flat_map (λ (w : List ℕ). codes " " ++ escaped w) (map (λ (w : List ℕ). []) i.title))
    (flat-map-marks (λ (w : List ℕ). codes " " ++ escaped w) (λ (w : List ℕ). []) i.title (λ w. before (codes " ") (escaped w) (escaped []) (same_names w [])))

top-marks : (i : Instance) → marks (head_text i) ≡ marks (head_text (nameless i))
unfolding head_text
top-marks i =
    let t = title_text i in
    let u = title_text (nameless i) in
    behind (before_title ++ t ++ codes "</title>\n<style>\n" ++ style_text ++ codes "</style>\n</head>\n<body>\n<h1>" ++ t) (before_title ++ u ++ codes "</title>\n<style>\n" ++ style_text ++ codes "</style>\n</head>\n<body>\n<h1>" ++ u) (codes "</h1>\n")
    (both (before_title ++ t ++ codes "</title>\n<style>\n" ++ style_text ++ codes "</style>\n</head>\n<body>\n<h1>") t (before_title ++ u ++ codes "</title>\n<style>\n" ++ style_text ++ codes "</style>\n</head>\n<body>\n<h1>") u
    (behind (before_title ++ t ++ codes "</title>\n<style>\n" ++ style_text) (before_title ++ u ++ codes "</title>\n<style>\n" ++ style_text) (codes "</style>\n</head>\n<body>\n<h1>")
    (behind (before_title ++ t ++ codes "</title>\n<style>\n") (before_title ++ u ++ codes "</title>\n<style>\n") style_text
    (behind (before_title ++ t) (before_title ++ u) (codes "</title>\n<style>\n") (before before_title t u (title-marks i)))))
    (title-marks i))

page-marks : (i : Instance) (cell : ℕ → ℕ → ℕ → List Meeting) (held : ℕ → List Meeting) (u : List Meeting) → marks (page_of i cell held u) ≡ marks (page_of (nameless i) cell held u)
unfolding page_of
page-marks i cell held u =
    let days = each_below (day_text i cell) i.days in
    let others = each_below (day_text (nameless i) cell) i.days in
    behind (head_text i ++ days ++ unroomed_text i u ++ courses_text i held) (head_text (nameless i) ++ others ++ unroomed_text (nameless i) u ++ courses_text (nameless i) held) (codes "</body>\n</html>\n")
    (both (head_text i ++ days ++ unroomed_text i u) (courses_text i held) (head_text (nameless i) ++ others ++ unroomed_text (nameless i) u) (courses_text (nameless i) held)
    (both (head_text i ++ days) (unroomed_text i u) (head_text (nameless i) ++ others) (unroomed_text (nameless i) u)
    (both (head_text i) days (head_text (nameless i)) others (top-marks i) (each-marks (day_text i cell) (day_text (nameless i) cell) i.days (day-marks i cell)))
    (unroomed-marks i u))
    (courses-marks i held))

pub names_add_no_marks : NamesAddNoMarks
names_add_no_marks = λ i lines. page-marks i (in_cell lines) (of_course lines) (without_room lines)
