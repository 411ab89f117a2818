-- The lines of a timed solution in the tables.
use Rattle.std.proofs.Common.{ℕ, ◌≡◌, ◌+◌, ◌-◌, ◌*◌, ◌/◌, ◌<◌, ◌≤◌, arith, refl, sym, ◌∙◌, ap, ap₂, subst, zero, suc, Bool, true, false, not, cond, ◌&&◌, ◌||◌, List, [], ◌∷◌, length, map, get_or, inl, inr}
use Rattle.std.specs.Prelude.{◌==◌, nat_lt, nat_le, slice_index_or, bytes_eq}
use Rattle.std.specs.List.{count_by, sum_by, list_any, list_all, All}
use Rattle.std.proofs.lemmas.Bool.{and_parts, and_from, eq-eqb, eqb-true, ltb-true, leb-true, lt-ltb, not-true, cases_Bool, true≢false}
use Rattle.std.proofs.lemmas.Bool.Decides.{nat_tests}
use Rattle.std.proofs.Math.Bool.{and_comm, and-false}
use Rattle.problem_core.specs.Facts.{is_pair}
use Rattle.problem_core.specs.Tables.{IsGrid}
use Rattle.ctt_reader.specs.declared.instance.Instance.{Instance}
use Rattle.ctt_reader.specs.declared.instance.Course.{Course}
use Rattle.ctt_reader.specs.declared.instance.Curriculum.{Curriculum}
use Rattle.ctt_reader.specs.Naming.{no_course}
use Rattle.ctt_reader.specs.Promised.{IsInstance, is_constraint, is_course}
use Rattle.ctt_reader.proofs.NameLemmas.{list_any-map}
use Rattle.timed_solution.specs.declared.times.Meeting.{Meeting}
use Rattle.timed_solution.specs.Times.{AreTimes, is_meeting, same_time, are_apart, held_of, lectures_of}
use Rattle.itc_score.specs.Sums.{sum_below, count_below, count_pairs}
use Rattle.itc_score.specs.Score.{course, missing_lectures, in_one_slot, are_related, are_in_conflict, have_one_teacher, are_in_one_curriculum, is_member, is_unavailable, is_taught_on, missing_days, are_next, stands_alone, alone_in, is_taught_in, rooms_used}
use Rattle.itc_score.specs.Places.{place, place_of, fits, is_at, held_at, alone_up_to, alone_among, are_known, course_place, place_course, course_day, course_room, closed_place, known_related}
use Rattle.itc_score.proofs.SumLemmas.{sum_below-same, sum_below-less, sum_below-bound, count-cons, count-same, any-same, count-split, pairs-twice, any-none, any-or, sum_by-all}

-- ---- tests

pub same_test : (b c : Bool) → (b ≡ true → c ≡ true) → (c ≡ true → b ≡ true) → b ≡ c
same_test true c f g = sym (f refl)
same_test false true f g = g refl
same_test false false f g = refl

pub record IsFit (courses rooms : ℕ) (m : Meeting) : Type 0 where
  pub course : m.course < courses
  pub room : m.room ≤ rooms
  pub day : m.day < 14
  pub period : m.period < 48

pub fit-is : (c r : ℕ) (m : Meeting) → fits c r m ≡ true → IsFit c r m
fit-is c r m h =
    let a = and_parts (nat_lt m.course c) (nat_lt m.room (r + 1) && (nat_lt m.day 14 && nat_lt m.period 48)) h in
    let b = and_parts (nat_lt m.room (r + 1)) (nat_lt m.day 14 && nat_lt m.period 48) a.1 in
    let d = and_parts (nat_lt m.day 14) (nat_lt m.period 48) b.1 in
    let room = ltb-true m.room (r + 1) b.0 in
    record { course = ltb-true m.course c a.0; room = omega (arith, room); day = ltb-true m.day 14 d.0; period = ltb-true m.period 48 d.1 }

-- different slots have different places
pub same_place : (a b c d : ℕ) → b < 48 → d < 48 → (place a b == place c d) ≡ ((a == c) && (b == d))
same_place a b c d l m = same_test (place a b == place c d) ((a == c) && (b == d))
    (λ h. let e : place a b ≡ place c d = eqb-true (place a b) (place c d) h in
    let day : a ≡ c = omega (arith, e, l, m) in
    let period : b ≡ d = omega (arith, e, day) in
    and_from (a == c) (b == d) (eq-eqb a c day) (eq-eqb b d period))
    (λ h. let p = and_parts (a == c) (b == d) h in
    eq-eqb (place a b) (place c d) (ap₂ place (eqb-true a c p.0) (eqb-true b d p.1)))

turned : (a b : ℕ) → (a == b) ≡ (b == a)
turned a b = same_test (a == b) (b == a) (λ h. eq-eqb b a (sym (eqb-true a b h))) (λ h. eq-eqb a b (sym (eqb-true b a h)))

-- every list of pairs is within its table
pub map-known : {X : Type 0} (f : X → ℕ × ℕ) (ok : X → Bool) (rows columns : ℕ) (xs : List X) → list_all ok xs ≡ true → ((x : X) → ok x ≡ true → ((f x).0 < rows) × ((f x).1 < columns))
    → All (λ y. (y.0 < rows) × (y.1 < columns)) (map f xs)
map-known f ok rows columns [] all h k d l = absurd (omega arith)
map-known f ok rows columns (x ∷ xs) all h zero d l = h x (and_parts (ok x) (list_all ok xs) all).0
map-known f ok rows columns (x ∷ xs) all h (suc k) d l = map-known f ok rows columns xs (and_parts (ok x) (list_all ok xs) all).1 h k d (omega arith)

pub all-same : {X : Type 0} (p q : X → Bool) (xs : List X) → ((x : X) → p x ≡ true → q x ≡ true) → list_all p xs ≡ true → list_all q xs ≡ true
all-same p q [] h all = refl
all-same p q (x ∷ xs) h all =
    let a = and_parts (p x) (list_all p xs) all in
    and_from (q x) (list_all q xs) (h x a.0) (all-same p q xs h a.1)

pub place-small : (day period : ℕ) → day < 14 → period < 48 → place day period < 700
place-small day period l m = omega arith

-- ---- at a place a course has one line at most

at-same : (c r : ℕ) (m x : Meeting) → IsFit c r m → IsFit c r x → is_at m.course (place_of m) x ≡ same_time m x
at-same c r m x fm fx =
    ap (λ t. t && (x.course == m.course)) (same_place x.day x.period m.day m.period fx.period fm.period)
    ∙ and_comm ((x.day == m.day) && (x.period == m.period)) (x.course == m.course)
    ∙ ap₂ (λ s t. s && t) (turned x.course m.course) (ap₂ (λ s t. s && t) (turned x.day m.day) (turned x.period m.period))

at-moved : (c p : ℕ) (m x : Meeting) → is_at c p m ≡ true → is_at c p x ≡ is_at m.course (place_of m) x
at-moved c p m x h =
    let a = and_parts (place_of m == p) (m.course == c) h in
    ap₂ (λ d q. is_at d q x) (sym (eqb-true m.course c a.1)) (sym (eqb-true (place_of m) p a.0))

count-none : {X : Type 0} (p : X → Bool) (xs : List X) → list_any p xs ≡ false → count_by p xs ≡ 0
count-none p xs h = eqb-true (count_by p xs) 0 (sym (any-none p xs) ∙ ap not h)

pub count-at : (k r : ℕ) (lines : List Meeting) (c p : ℕ) → list_all (fits k r) lines ≡ true → are_apart lines ≡ true → count_by (is_at c p) lines ≡ cond (list_any (is_at c p) lines) 1 0
count-at k r [] c p all apart = refl
count-at k r (m ∷ lines) c p all apart = count-cons (is_at c p) m lines ∙ elim (cases_Bool (is_at c p m)) [
  | inl here ↦
      let a = and_parts (fits k r m) (list_all (fits k r) lines) all in
      let b = and_parts (not (list_any (same_time m) lines)) (are_apart lines) apart in
      let none : list_any (is_at c p) lines ≡ false =
      any-same (is_at c p) (same_time m) (fits k r) lines a.1 (λ x h. at-moved c p m x here ∙ at-same k r m x (fit-is k r m a.0) (fit-is k r x h))
      ∙ not-true (list_any (same_time m) lines) b.0 in
      rw here (ap (λ n. 1 + n) (count-none (is_at c p) lines none))
  | inr there ↦
      let a = and_parts (fits k r m) (list_all (fits k r) lines) all in
      let b = and_parts (not (list_any (same_time m) lines)) (are_apart lines) apart in
      let rest = count-at k r lines c p a.1 b.1 in
      rw there (let e : 0 + count_by (is_at c p) lines ≡ cond (list_any (is_at c p) lines) 1 0 = omega (arith, rest) in e)
]

-- the lines at a place whose courses pass, course by course
cond-both : (t b : Bool) → ◌≡◌ {A = ℕ} (cond t (cond b 1 0) 0) (cond (t && b) 1 0)
cond-both true b = refl
cond-both false b = refl

courses-known : (k r : ℕ) (lines : List Meeting) → list_all (fits k r) lines ≡ true → list_all (λ x. nat_lt x.course k) lines ≡ true
courses-known k r lines all = all-same (fits k r) (λ x. nat_lt x.course k) lines (λ x h. lt-ltb x.course k (fit-is k r x h).course) all

pub courses-at : (k r : ℕ) (lines : List Meeting) (t : ℕ → Bool) (p : ℕ) → list_all (fits k r) lines ≡ true → are_apart lines ≡ true
    → count_below (λ c. t c && list_any (is_at c p) lines) k ≡ count_by (λ x. (place_of x == p) && t x.course) lines
courses-at k r lines t p all apart =
    sum_below-same (λ c. cond (t c && list_any (is_at c p) lines) 1 0) (λ c. cond (t c) (count_by (is_at c p) lines) 0) k
    (λ c l. sym (cond-both (t c) (list_any (is_at c p) lines)) ∙ ap (λ n. cond (t c) n 0) (sym (count-at k r lines c p all apart)))
    ∙ count-split (λ x. place_of x == p) (λ x. x.course) t k lines (courses-known k r lines all)

-- ---- conflicts

fits-wider : (k n r : ℕ) (lines : List Meeting) → k ≤ n → list_all (fits k r) lines ≡ true → list_all (fits n r) lines ≡ true
fits-wider k n r lines l all = all-same (fits k r) (fits n r) lines each all
  where
    each : (x : Meeting) → fits k r x ≡ true → fits n r x ≡ true
    each x h =
        let a = and_parts (nat_lt x.course k) (nat_lt x.room (r + 1) && (nat_lt x.day 14 && nat_lt x.period 48)) h in
        let c = ltb-true x.course k a.0 in
        and_from (nat_lt x.course n) (nat_lt x.room (r + 1) && (nat_lt x.day 14 && nat_lt x.period 48)) (lt-ltb x.course n (omega (arith, c, l))) a.1

pub conflicts-at : (i : Instance) (r : ℕ) (lines : List Meeting) (m : Meeting) → length i.courses ≤ 1000 → list_all (fits (length i.courses) r) lines ≡ true → are_apart lines ≡ true → IsFit (length i.courses) r m
    → (n : ℕ) → n ≡ 1000 → count_below (λ d. known_related i m.course d && list_any (is_at d (place_of m)) lines) n ≡ count_by (are_in_conflict i m) lines
conflicts-at i r lines m few all apart fm n many =
    courses-at n r lines (known_related i m.course) (place_of m) (fits-wider (length i.courses) n r lines (omega (arith, few, many)) all) apart
    ∙ count-same (λ x. (place_of x == place_of m) && known_related i m.course x.course) (are_in_conflict i m) (fits (length i.courses) r) lines all
    (λ x h. ap₂ (λ s t. s && t)
    (same_place x.day x.period m.day m.period (fit-is (length i.courses) r x h).period fm.period ∙ ap₂ (λ s t. s && t) (turned x.day m.day) (turned x.period m.period))
    (ap (λ t. t && are_related i m.course x.course) (lt-ltb x.course (length i.courses) (fit-is (length i.courses) r x h).course)))

bytes-turned : (i : Instance) (c d : ℕ) → have_one_teacher i c d ≡ have_one_teacher i d c
bytes-turned i c d = words (course i c).teacher (course i d).teacher
  where
    words : (a b : List ℕ) → bytes_eq a b ≡ bytes_eq b a
    words [] [] = refl
    words [] (y ∷ b) = refl
    words (x ∷ a) [] = refl
    words (x ∷ a) (y ∷ b) = ap₂ (λ s t. s && t) (turned x y) (words a b)

curricula-turned : (c d : ℕ) (qs : List Curriculum) → list_any (λ q. is_member q c && is_member q d) qs ≡ list_any (λ q. is_member q d && is_member q c) qs
curricula-turned c d [] = refl
curricula-turned c d (q ∷ qs) = ap₂ (λ s t. s || t) (and_comm (is_member q c) (is_member q d)) (curricula-turned c d qs)

related-turned : (i : Instance) (c d : ℕ) → are_related i c d ≡ are_related i d c
related-turned i c d = ap₂ (λ s t. not s && t) (turned c d) (ap₂ (λ s t. s || t) (bytes-turned i c d) (curricula-turned c d i.curricula))

conflict-turned : (i : Instance) (a b : Meeting) → are_in_conflict i a b ≡ are_in_conflict i b a
conflict-turned i a b = ap₂ (λ s t. s && t) (ap₂ (λ s t. s && t) (turned a.day b.day) (turned a.period b.period)) (related-turned i a.course b.course)

conflict-none : (i : Instance) (a : Meeting) → are_in_conflict i a a ≡ false
conflict-none i a =
    ap (λ t. in_one_slot a a && (not t && (have_one_teacher i a.course a.course || are_in_one_curriculum i a.course a.course))) (eq-eqb a.course a.course refl)
    ∙ and-false (in_one_slot a a)

pub conflicts-twice : (i : Instance) (lines : List Meeting) → sum_by (λ a. count_by (are_in_conflict i a) lines) lines ≡ 2 * count_pairs (are_in_conflict i) lines
conflicts-twice i lines = pairs-twice (are_in_conflict i) lines (conflict-none i) (conflict-turned i)

-- ---- compactness

-- the place before that of the line
abbrev before : Meeting → ℕ
before m = m.day * 50 + m.period

before-small : (k r : ℕ) (m : Meeting) → fits k r m ≡ true → nat_lt (before m) 698 ≡ true
before-small k r m h = let f = fit-is k r m h in lt-ltb (m.day * 50 + m.period) 698 (omega (arith, f.day, f.period))

at_next : (m : Meeting) (j : ℕ) → (place_of m == j + 1) ≡ (before m == j)
at_next m j = same_test (place_of m == j + 1) (m.day * 50 + m.period == j)
    (λ h. let e : place_of m ≡ j + 1 = eqb-true (place_of m) (j + 1) h in eq-eqb (m.day * 50 + m.period) j (omega (arith, e)))
    (λ h. let e : m.day * 50 + m.period ≡ j = eqb-true (m.day * 50 + m.period) j h in eq-eqb (place_of m) (j + 1) (omega (arith, e)))

or-test : (a b : Bool) → (a ≡ true → b ≡ true) → (a || b) ≡ b
or-test true b f = sym (f refl)
or-test false b f = refl

-- next to the line, by places
next-place : (k r : ℕ) (m x : Meeting) → IsFit k r m → IsFit k r x → ((place_of x == before m) || (place_of x == before m + 2)) ≡ are_next m x
next-place k r m x fm fx = same_test ((place_of x == before m) || (place_of x == before m + 2)) (are_next m x) forth back
  where
    forth : ((place_of x == before m) || (place_of x == before m + 2)) ≡ true → are_next m x ≡ true
    forth h = elim (cases_Bool (place_of x == before m)) [
      | inl earlier ↦
          let e : place_of x ≡ m.day * 50 + m.period = eqb-true (place_of x) (before m) earlier in
          let day : m.day ≡ x.day = omega (arith, e, fm.period, fx.period) in
          let period : x.period + 1 ≡ m.period = omega (arith, e, day) in
          and_from (m.day == x.day) ((m.period + 1 == x.period) || (x.period + 1 == m.period)) (eq-eqb m.day x.day day) (or-right (m.period + 1 == x.period) (x.period + 1 == m.period) (eq-eqb (x.period + 1) m.period period))
      | inr other ↦
          let later : (place_of x == before m + 2) ≡ true = ap (λ t. t || (place_of x == before m + 2)) (sym other) ∙ h in
          let e : place_of x ≡ m.day * 50 + m.period + 2 = eqb-true (place_of x) (before m + 2) later in
          let day : m.day ≡ x.day = omega (arith, e, fm.period, fx.period) in
          let period : m.period + 1 ≡ x.period = omega (arith, e, day) in
          and_from (m.day == x.day) ((m.period + 1 == x.period) || (x.period + 1 == m.period)) (eq-eqb m.day x.day day) (or-left (m.period + 1 == x.period) (x.period + 1 == m.period) (eq-eqb (m.period + 1) x.period period))
    ]
      where
        or-right : (a b : Bool) → b ≡ true → (a || b) ≡ true
        or-right true b e = refl
        or-right false b e = e

        or-left : (a b : Bool) → a ≡ true → (a || b) ≡ true
        or-left true b e = refl
        or-left false b e = absurd (true≢false (sym e))

    back : are_next m x ≡ true → ((place_of x == before m) || (place_of x == before m + 2)) ≡ true
    back h =
        let a = and_parts (m.day == x.day) ((m.period + 1 == x.period) || (x.period + 1 == m.period)) h in
        let day : m.day ≡ x.day = eqb-true m.day x.day a.0 in
        elim (cases_Bool (m.period + 1 == x.period)) [
          | inl later ↦
              let e : m.period + 1 ≡ x.period = eqb-true (m.period + 1) x.period later in
              or-right (place_of x == before m) (place_of x == before m + 2) (eq-eqb (place_of x) (before m + 2) (let z : place_of x ≡ m.day * 50 + m.period + 2 = omega (arith, e, day) in z))
          | inr other ↦
              let earlier : (x.period + 1 == m.period) ≡ true = ap (λ t. t || (x.period + 1 == m.period)) (sym other) ∙ a.1 in
              let e : x.period + 1 ≡ m.period = eqb-true (x.period + 1) m.period earlier in
              or-left (place_of x == before m) (place_of x == before m + 2) (eq-eqb (place_of x) (before m) (let z : place_of x ≡ m.day * 50 + m.period = omega (arith, e, day) in z))
        ]
      where
        or-right : (a b : Bool) → b ≡ true → (a || b) ≡ true
        or-right true b e = refl
        or-right false b e = e

        or-left : (a b : Bool) → a ≡ true → (a || b) ≡ true
        or-left true b e = refl
        or-left false b e = absurd (true≢false (sym e))

-- how many lines of members are at a place
abbrev members_at : Curriculum → List Meeting → ℕ → ℕ
members_at q lines p = count_by (λ x. (place_of x == p) && is_member q x.course) lines

and-over-or : (a b m : Bool) → ((a && m) || (b && m)) ≡ (m && (a || b))
and-over-or true true true = refl
and-over-or true true false = refl
and-over-or true false true = refl
and-over-or true false false = refl
and-over-or false true true = refl
and-over-or false true false = refl
and-over-or false false true = refl
and-over-or false false false = refl

not-or : (a b : Bool) → not (a || b) ≡ (not a && not b)
not-or true b = refl
not-or false b = refl

-- no line of a member is beside
none-next : (q : Curriculum) (k r : ℕ) (lines : List Meeting) (m : Meeting) → list_all (fits k r) lines ≡ true → IsFit k r m
    → ((members_at q lines (before m) == 0) && (members_at q lines (before m + 2) == 0)) ≡ not (list_any (λ x. is_member q x.course && are_next m x) lines)
none-next q k r lines m all fm =
    let a : Meeting → Bool = λ x. (place_of x == before m) && is_member q x.course in
    let b : Meeting → Bool = λ x. (place_of x == before m + 2) && is_member q x.course in
    ap₂ (λ s t. s && t) (sym (any-none a lines)) (sym (any-none b lines))
    ∙ sym (not-or (list_any a lines) (list_any b lines))
    ∙ ap not (sym (any-or a b lines)
    ∙ any-same (λ x. a x || b x) (λ x. is_member q x.course && are_next m x) (fits k r) lines all
    (λ x h. and-over-or (place_of x == before m) (place_of x == before m + 2) (is_member q x.course) ∙ ap (λ t. is_member q x.course && t) (next-place k r m x fm (fit-is k r x h))))

alone-is-to : (n : ℕ) (q : Curriculum) (held : List Bool) (k r : ℕ) (lines : List Meeting) → n ≡ 698 → list_all (fits k r) lines ≡ true → are_apart lines ≡ true
    → IsGrid held k 700 (λ c p. list_any (is_pair c p) (map course_place lines)) → alone_up_to n (held_at (is_member q) held k) ≡ alone_in lines q
alone-is-to n q held k r lines all_places all apart grid =
    sum_below-same (λ j. cond ((held_at (is_member q) held k j == 0) && (held_at (is_member q) held k (j + 2) == 0)) (held_at (is_member q) held k (j + 1)) 0)
    (λ j. cond (free j) (count_by (λ x. is_member q x.course && (before x == j)) lines) 0) n
    (λ j l. ap₂ (λ t n. cond t n 0) (ap₂ (λ s t. (s == 0) && (t == 0)) (at_place j (omega (arith, l, all_places))) (at_place (j + 2) (omega (arith, l, all_places)))) (at_place (j + 1) (omega (arith, l, all_places)) ∙ numbered j))
    ∙ count-split (λ x. is_member q x.course) before free n lines (all-same (fits k r) (λ x. nat_lt (before x) n) lines (λ x h. rw all_places (before-small k r x h)) all)
    ∙ count-same (λ x. is_member q x.course && free (before x)) (stands_alone q lines) (fits k r) lines all (λ x h. ap (λ t. is_member q x.course && t) (none-next q k r lines x all (fit-is k r x h)))
  where
    free : ℕ → Bool
    free j = (members_at q lines j == 0) && (members_at q lines (j + 2) == 0)

    at_place : (p : ℕ) → p < 700 → held_at (is_member q) held k p ≡ members_at q lines p
    at_place p l =
        sum_below-same (λ c. cond (is_member q c && get_or held (c * 700 + p) false) 1 0) (λ c. cond (is_member q c && list_any (is_at c p) lines) 1 0) k
        (λ c m. ap (λ t. cond (is_member q c && t) 1 0) (grid.cell c p false m l ∙ list_any-map (is_pair c p) course_place lines ∙ any-same (λ x. is_pair c p (course_place x)) (is_at c p) (fits k r) lines all (λ x h. and_comm (x.course == c) (place_of x == p))))
        ∙ courses-at k r lines (is_member q) p all apart

    numbered : (j : ℕ) → members_at q lines (j + 1) ≡ count_by (λ x. is_member q x.course && (before x == j)) lines
    numbered j = count-same (λ x. (place_of x == j + 1) && is_member q x.course) (λ x. is_member q x.course && (before x == j)) (fits k r) lines all
        (λ x h. ap (λ t. t && is_member q x.course) (at_next x j) ∙ and_comm (before x == j) (is_member q x.course))

pub alone-is : (q : Curriculum) (held : List Bool) (k r : ℕ) (lines : List Meeting) → list_all (fits k r) lines ≡ true → are_apart lines ≡ true
    → IsGrid held k 700 (λ c p. list_any (is_pair c p) (map course_place lines)) → alone_among (held_at (is_member q) held k) ≡ alone_in lines q
unfolding alone_among
alone-is q held k r lines all apart grid = alone-is-to 698 q held k r lines refl all apart grid

pub alone-counted : (count : ℕ → ℕ) (n found : ℕ) → n ≡ 698 → found ≡ alone_up_to n count → found ≡ alone_among count
unfolding alone_among
alone-counted count n found e h = h ∙ ap (λ m. alone_up_to m count) e

-- ---- lectures

lectures-at : (cs : List Course) (c : ℕ) → lectures_of cs c ≡ (slice_index_or cs c no_course).lectures
lectures-at [] zero = refl
lectures-at [] (suc c) = refl
lectures-at (x ∷ cs) zero = refl
lectures-at (x ∷ cs) (suc c) = lectures-at cs c

count-all : {X : Type 0} (xs : List X) → count_by (λ _. true) xs ≡ length xs
count-all [] = refl
count-all (x ∷ xs) = let step : count_by (λ _. true) (x ∷ xs) ≡ 1 + count_by (λ _. true) xs = count-cons (λ _. true) x xs in let rest = count-all xs in omega (arith, step, rest)

held-sum : (k r : ℕ) (lines : List Meeting) → list_all (fits k r) lines ≡ true → sum_below (λ c. held_of c lines) k ≡ length lines
held-sum k r lines all = count-split (λ _. true) (λ x. x.course) (λ _. true) k lines (courses-known k r lines all) ∙ count-all lines

pub missing-is : (i : Instance) (r : ℕ) (lines : List Meeting) → list_all (fits (length i.courses) r) lines ≡ true → AreTimes i lines
    → sum_below (missing_lectures i lines) (length i.courses) + length lines ≡ sum_below (λ c. (course i c).lectures) (length i.courses)
missing-is i r lines all times =
    ap (λ n. sum_below (missing_lectures i lines) (length i.courses) + n) (sym (held-sum (length i.courses) r lines all))
    ∙ sum_below-less (λ c. (course i c).lectures) (λ c. held_of c lines) (length i.courses) (λ c l. let w = times.within c in omega (arith, w, lectures-at i.courses c))

course-at : (cs : List Course) (k : ℕ) → k < length cs → list_all is_course cs ≡ true → is_course (slice_index_or cs k no_course) ≡ true
course-at [] k l all = absurd (omega arith)
course-at (x ∷ cs) zero l all = (and_parts (is_course x) (list_all is_course cs) all).0
course-at (x ∷ cs) (suc k) l all = course-at cs k (omega arith) (and_parts (is_course x) (list_all is_course cs) all).1

pub record IsSmall (c : Course) : Type 0 where
  pub lectures : c.lectures ≤ 1000
  pub min_days : c.min_days ≤ 1000
  pub students : c.students ≤ 1000000

pub course-small : (cs : List Course) (k : ℕ) → k < length cs → list_all is_course cs ≡ true → IsSmall (slice_index_or cs k no_course)
course-small cs k l all =
    let c = slice_index_or cs k no_course in
    small c (course-at cs k l all)
  where
    small : (c : Course) → is_course c ≡ true → IsSmall c
    small c h = grind (arith, nat_tests, h)

pub lines-few : (i : Instance) (r : ℕ) (lines : List Meeting) → IsInstance i → list_all (fits (length i.courses) r) lines ≡ true → AreTimes i lines → length lines ≤ 1000000
lines-few i r lines good all times =
    let bound = sum_below-bound (λ c. held_of c lines) 1000 (length i.courses) (λ c l. let w = times.within c in let s = (course-small i.courses c l good.courses).lectures in omega (arith, w, lectures-at i.courses c, s)) in
    omega (arith, bound, held-sum (length i.courses) r lines all, good.few_courses)

-- ---- availability

pub unavailable-is : (i : Instance) (m : Meeting) → list_all are_known i.constraints ≡ true → m.period < 48 → list_any (is_pair m.course (place_of m)) (map closed_place i.constraints) ≡ is_unavailable i m
unavailable-is i m all l =
    list_any-map (is_pair m.course (place_of m)) closed_place i.constraints
    ∙ any-same (λ x. is_pair m.course (place_of m) (closed_place x)) (λ x. (x.0 == m.course) && ((x.1 == m.day) && (x.2 == m.period))) are_known i.constraints all
    (λ x h. ap (λ t. (x.0 == m.course) && t) (same_place x.1 x.2 m.day m.period (ltb-true x.2 48 (and_parts (nat_lt x.1 14) (nat_lt x.2 48) h).1) l))

pub constraints-known : (i : Instance) → IsInstance i → list_all are_known i.constraints ≡ true
constraints-known i good = all-same (is_constraint (length i.courses) i.days i.periods) are_known i.constraints
    (λ x h. let a = and_parts (nat_lt x.0 (length i.courses) && nat_lt x.1 i.days) (nat_lt x.2 i.periods) h in
    let b = and_parts (nat_lt x.0 (length i.courses)) (nat_lt x.1 i.days) a.0 in
    let day = ltb-true x.1 i.days b.1 in
    let period = ltb-true x.2 i.periods a.1 in
    and_from (nat_lt x.1 14) (nat_lt x.2 48) (lt-ltb x.1 14 (omega (arith, day, good.few_days))) (lt-ltb x.2 48 (omega (arith, period, good.few_periods)))) good.constraints

pub constraint-known : (i : Instance) → IsInstance i → All (λ y. (y.0 < length i.courses) × (y.1 < 700)) (map closed_place i.constraints)
constraint-known i good = map-known closed_place (is_constraint (length i.courses) i.days i.periods) (length i.courses) 700 i.constraints good.constraints
    (λ x h. let a = and_parts (nat_lt x.0 (length i.courses) && nat_lt x.1 i.days) (nat_lt x.2 i.periods) h in
    let b = and_parts (nat_lt x.0 (length i.courses)) (nat_lt x.1 i.days) a.0 in
    let day = ltb-true x.1 i.days b.1 in
    let period = ltb-true x.2 i.periods a.1 in
    (ltb-true x.0 (length i.courses) b.0, place-small x.1 x.2 (omega (arith, day, good.few_days)) (omega (arith, period, good.few_periods))))

-- ---- what the reader gives fits the tables

pub lines-fit : (i : Instance) (lines : List Meeting) → IsInstance i → list_all (is_meeting i) lines ≡ true → list_all (fits (length i.courses) (length i.rooms)) lines ≡ true
lines-fit i lines good all = all-same (is_meeting i) (fits (length i.courses) (length i.rooms)) lines each all
  where
    each : (x : Meeting) → is_meeting i x ≡ true → fits (length i.courses) (length i.rooms) x ≡ true
    each x h =
        let a = and_parts (nat_lt x.course (length i.courses) && nat_le x.room (length i.rooms) && nat_lt x.day i.days) (nat_lt x.period i.periods) h in
        let b = and_parts (nat_lt x.course (length i.courses) && nat_le x.room (length i.rooms)) (nat_lt x.day i.days) a.0 in
        let c = and_parts (nat_lt x.course (length i.courses)) (nat_le x.room (length i.rooms)) b.0 in
        let day = ltb-true x.day i.days b.1 in
        let period = ltb-true x.period i.periods a.1 in
        let room = leb-true x.room (length i.rooms) c.1 in
        and_from (nat_lt x.course (length i.courses)) (nat_lt x.room (length i.rooms + 1) && (nat_lt x.day 14 && nat_lt x.period 48)) c.0
        (and_from (nat_lt x.room (length i.rooms + 1)) (nat_lt x.day 14 && nat_lt x.period 48) (lt-ltb x.room (length i.rooms + 1) (omega (arith, room)))
        (and_from (nat_lt x.day 14) (nat_lt x.period 48) (lt-ltb x.day 14 (omega (arith, day, good.few_days))) (lt-ltb x.period 48 (omega (arith, period, good.few_periods)))))

-- in tables that are as large or larger
pub fits-more : (k r k' r' : ℕ) (lines : List Meeting) → k ≤ k' → r ≤ r' → list_all (fits k r) lines ≡ true → list_all (fits k' r') lines ≡ true
fits-more k r k' r' lines l m all = all-same (fits k r) (fits k' r') lines each all
  where
    each : (x : Meeting) → fits k r x ≡ true → fits k' r' x ≡ true
    each x h =
        let f = fit-is k r x h in
        and_from (nat_lt x.course k') (nat_lt x.room (r' + 1) && (nat_lt x.day 14 && nat_lt x.period 48)) (lt-ltb x.course k' (omega (arith, f.course, l)))
        (and_from (nat_lt x.room (r' + 1)) (nat_lt x.day 14 && nat_lt x.period 48) (lt-ltb x.room (r' + 1) (omega (arith, f.room, m)))
        (and_from (nat_lt x.day 14) (nat_lt x.period 48) (lt-ltb x.day 14 f.day) (lt-ltb x.period 48 f.period)))

-- ---- the pairs of the tables

pub places-known : (k r : ℕ) (lines : List Meeting) → list_all (fits k r) lines ≡ true → All (λ y. (y.0 < 700) × (y.1 < k)) (map place_course lines)
places-known k r lines all = map-known place_course (fits k r) 700 k lines all (λ x h. let f = fit-is k r x h in (place-small x.day x.period f.day f.period, f.course))

pub courses-placed : (k r : ℕ) (lines : List Meeting) → list_all (fits k r) lines ≡ true → All (λ y. (y.0 < k) × (y.1 < 700)) (map course_place lines)
courses-placed k r lines all = map-known course_place (fits k r) k 700 lines all (λ x h. let f = fit-is k r x h in (f.course, place-small x.day x.period f.day f.period))

pub days-known : (k r : ℕ) (lines : List Meeting) → list_all (fits k r) lines ≡ true → All (λ y. (y.0 < k) × (y.1 < 14)) (map course_day lines)
days-known k r lines all = map-known course_day (fits k r) k 14 lines all (λ x h. let f = fit-is k r x h in (f.course, f.day))

pub rooms-known : (k r : ℕ) (lines : List Meeting) → list_all (fits k r) lines ≡ true → All (λ y. (y.0 < k) × (y.1 < r + 1)) (map course_room lines)
rooms-known k r lines all = map-known course_room (fits k r) k (r + 1) lines all (λ x h. let f = fit-is k r x h in (f.course, (let l = f.room in let m : x.room < r + 1 = omega (arith, l) in m)))

pub halved : (twice n : ℕ) → twice ≡ 2 * n → twice / 2 ≡ n
halved twice n h = omega (arith, h)

-- ---- what the tables of days, rooms and places say

pub days-are : (i : Instance) (lines : List Meeting) (pairs : List (ℕ × ℕ)) (taught : List Bool) (n : ℕ) → IsInstance i → n ≡ length i.courses → pairs ≡ map course_day lines → IsGrid taught n 14 (λ c d. list_any (is_pair c d) pairs)
    → sum_below (λ c. (slice_index_or i.courses c no_course).min_days - count_below (λ d. get_or taught (c * 14 + d) false) i.days) (length i.courses) ≡ sum_below (missing_days i lines) (length i.courses)
days-are i lines pairs taught n good count listed grid =
    sum_below-same (λ c. (slice_index_or i.courses c no_course).min_days - count_below (λ d. get_or taught (c * 14 + d) false) i.days) (missing_days i lines) (length i.courses)
    (λ c l. ap (λ h. (slice_index_or i.courses c no_course).min_days - h)
    (sum_below-same (λ d. cond (get_or taught (c * 14 + d) false) 1 0) (λ d. cond (list_any (is_taught_on c d) lines) 1 0) i.days
    (λ d m. ap (λ t. cond t 1 0) (grid.cell c d false (omega (arith, l, count)) (omega (arith, m, good.few_days)) ∙ ap (list_any (is_pair c d)) listed ∙ list_any-map (is_pair c d) course_day lines))))

pub rooms-are : (i : Instance) (lines : List Meeting) (pairs : List (ℕ × ℕ)) (used : List Bool) (n r : ℕ) → n ≡ length i.courses → r ≡ length i.rooms → pairs ≡ map course_room lines → IsGrid used n (r + 1) (λ c d. list_any (is_pair c d) pairs)
    → sum_below (λ c. count_below (λ k. get_or used (c * (length i.rooms + 1) + 1 + k) false) (length i.rooms) - 1) (length i.courses) ≡ sum_below (λ c. rooms_used i lines c - 1) (length i.courses)
rooms-are i lines pairs used n r count rooms listed grid =
    sum_below-same (λ c. count_below (λ k. get_or used (c * (length i.rooms + 1) + 1 + k) false) (length i.rooms) - 1) (λ c. rooms_used i lines c - 1) (length i.courses)
    (λ c l. ap (λ h. h - 1)
    (sum_below-same (λ k. cond (get_or used (c * (length i.rooms + 1) + 1 + k) false) 1 0) (λ k. cond (list_any (is_taught_in c k) lines) 1 0) (length i.rooms)
    (λ k m. ap (λ t. cond t 1 0) (ap (λ j. get_or used j false) (cell c k) ∙ grid.cell c (k + 1) false (omega (arith, l, count)) (omega (arith, m, rooms)) ∙ ap (list_any (is_pair c (k + 1))) listed ∙ list_any-map (is_pair c (k + 1)) course_room lines))))
  where
    cell : (c k : ℕ) → c * (length i.rooms + 1) + 1 + k ≡ c * (r + 1) + (k + 1)
    cell c k = rw rooms (omega arith)

pub all-alone : (qs : List Curriculum) (held : List Bool) (k r n : ℕ) (lines : List Meeting) (pairs : List (ℕ × ℕ)) → n ≡ k → pairs ≡ map course_place lines → list_all (fits k r) lines ≡ true → are_apart lines ≡ true
    → IsGrid held n 700 (λ c p. list_any (is_pair c p) pairs) → sum_by (λ q. alone_among (held_at (is_member q) held k)) qs ≡ sum_by (alone_in lines) qs
all-alone qs held k r n lines pairs count listed all apart grid =
    sum_by-all (λ q. alone_among (held_at (is_member q) held k)) (alone_in lines) qs
    (λ q. alone-is q held k r lines all apart (subst (λ ys. IsGrid held k 700 (λ c p. list_any (is_pair c p) ys)) listed (subst (λ m. IsGrid held m 700 (λ c p. list_any (is_pair c p) pairs)) count grid)))
