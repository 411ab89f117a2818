-- Patterns clash exactly where they share a base row, and each stands in the row of an event.
use Rattle.std.proofs.Common.{ℕ, ◌≡◌, ◌≢◌, ◌+◌, ◌<◌, inl, inr, Bool, true, not, ◌&&◌, ◌||◌, refl, arith, ap, sym, ◌∙◌, List, length, map}
use Rattle.std.specs.Prelude.{◌==◌, nat_le, nat_lt}
use Rattle.std.specs.List.{list_any}
use Rattle.std.proofs.lemmas.Bool.{and_parts, and_from, or_cases, eq-eqb, eqb-true, le-leb, lt-ltb, ltb-true, cases_lt}
use Rattle.std.proofs.lemmas.List.{get_or-map, length-map}
use Rattle.numbers.specs.Below.{any_below, any_below_at}
use Rattle.problem_core.specs.Facts.{Facts, takes_slot, share_slot, event_at}
use Rattle.problem_core.specs.Courses.{passing}
use Rattle.problem_core.specs.Passing.{passing-before, at_place}
use Rattle.problem_core.specs.Valid.{IsProblem}
use Rattle.problem_core.proofs.RunLemmas.{run_of-has}
use Rattle.meeting_patterns.specs.Pattern.{within, IsPattern, patterns_of, pattern_at, is_same, share_event, share_a_slot}
use Rattle.meeting_patterns.specs.declared.pattern.Pattern.{Pattern}
use Rattle.meeting_patterns.proofs.ListLemmas.{patterns_are}
use Rattle.meeting_patterns.proofs.SumLemmas.{some_event}
use Rattle.packing_model.specs.declared.row.Row.{Row}
use Rattle.packing_model.specs.declared.row.Row.TheVariants.{Event, RoomSlot, CourseRoom}
use Rattle.packing_model.specs.Rows.{takes, stands_in, standing, has_some, has_two, row_at}
use Rattle.packing_model.specs.Keys.{key_end, slot_key, course_key, row_of, makes_row}
use Rattle.packing_model.specs.Built.{packing, rows_of}
use Rattle.packing_model.proofs.KeyLemmas.{slot_below, course_below, row_of-event, row_of-slot, row_of-course}
use Rattle.packing_model.proofs.BaseLemmas.{makes-event, makes-slot, makes-course, rows_listed}
use Rattle.packing_model.proofs.RowLemmas.{first_event, base_clash}
use Rattle.search_nodes.specs.SharedRows.{share_row}
use Rattle.search_nodes.proofs.ClashLaws.{some_slot, clash_back}

abbrev at_number : Facts → ℕ → Pattern
at_number p i = pattern_at (patterns_of p) i

each_is : (p : Facts) (i : ℕ) → i < length (patterns_of p) → IsPattern p (at_number p i)
each_is p = (patterns_are p).each

-- ---- a row that enough patterns stand in is a base row

record IsRowAt (p : Facts) (row : Row) (r : ℕ) : Type 0 where
  pub below : r < length (rows_of p)
  pub is : row_at (rows_of p) r ≡ row

key_row : (p : Facts) → IsProblem p → (k : ℕ) (row : Row) → k < key_end p → makes_row p (patterns_of p) k ≡ true → row_of p k ≡ row → (r : ℕ) × IsRowAt p row r
key_row p is k row l makes same =
    let s = patterns_of p in
    let test : ℕ → Bool = makes_row p s in
    let keys : List ℕ = passing test (key_end p) in
    let place = at_place test (key_end p) k l makes in
    let r = length (passing test k) in
    let listed : map (row_of p) keys ≡ rows_of p = rows_listed p is s (each_is p) in (
      r,
      record {
        below = omega (arith, place.0, length-map keys (row_of p), ap length listed);
        is = ap (λ rows. row_at rows r) (sym listed) ∙ get_or-map (row_of p) keys r 0 (Event 0) place.0 ∙ ap (row_of p) place.1 ∙ same;
      },
    )

some_stand : (p : Facts) (row : Row) (i : ℕ) → i < length (patterns_of p) → stands_in p row (at_number p i) ≡ true → has_some p (patterns_of p) row ≡ true
some_stand p row i l h =
    let test : ℕ → Bool = λ n. stands_in p row (at_number p n) in
    le-leb 1 (length (standing p (patterns_of p) row)) (omega (arith, passing-before test i (length (patterns_of p)) l h))

two_stand : (p : Facts) (row : Row) (i j : ℕ) → i < j → j < length (patterns_of p) → stands_in p row (at_number p i) ≡ true → stands_in p row (at_number p j) ≡ true → has_two p (patterns_of p) row ≡ true
two_stand p row i j l m hi hj =
    let test : ℕ → Bool = λ n. stands_in p row (at_number p n) in
    le-leb 2 (length (standing p (patterns_of p) row)) (omega (arith, passing-before test i j l hi, passing-before test j (length (patterns_of p)) m hj))

event_row : (p : Facts) → IsProblem p → (i e : ℕ) → i < length (patterns_of p) → e < length p.events → stands_in p (Event e) (at_number p i) ≡ true → (r : ℕ) × IsRowAt p (Event e) r
event_row p is i e l m h =
    key_row p is e (Event e) (omega (arith, m)) (makes-event p is (patterns_of p) (each_is p) e m ∙ some_stand p (Event e) i l h) (row_of-event p e m)

slot_row : (p : Facts) → IsProblem p → (i r t : ℕ) → i < length (patterns_of p) → r < length p.capacity → t < p.slots → stands_in p (RoomSlot r t) (at_number p i) ≡ true → (n : ℕ) × IsRowAt p (RoomSlot r t) n
slot_row p is i r t l m n h =
    let low = slot_below p r t m n in
    key_row p is (slot_key p r t) (RoomSlot r t) (omega (arith, low)) (makes-slot p is (patterns_of p) (each_is p) r t m n ∙ some_stand p (RoomSlot r t) i l h) (row_of-slot p r t m n)

course_row : (p : Facts) → IsProblem p → (i j c r : ℕ) → i < j → j < length (patterns_of p) → c < length p.students → r < length p.capacity
    → stands_in p (CourseRoom c r) (at_number p i) ≡ true → stands_in p (CourseRoom c r) (at_number p j) ≡ true → (n : ℕ) × IsRowAt p (CourseRoom c r) n
course_row p is i j c r l m known room hi hj =
    key_row p is (course_key p c r) (CourseRoom c r) (course_below p c r known room) (makes-course p is (patterns_of p) (each_is p) c r known room ∙ two_stand p (CourseRoom c r) i j l m hi hj) (row_of-course p c r known room)

shared : (p : Facts) (i j r : ℕ) (row : Row) → IsRowAt p row r → stands_in p row (at_number p i) ≡ true → stands_in p row (at_number p j) ≡ true → share_row (packing p) i j ≡ true
shared p i j r row at hi hj =
    any_below_at (λ n. stands_in p (row_at (rows_of p) n) (at_number p i) && stands_in p (row_at (rows_of p) n) (at_number p j)) r (length (rows_of p)) at.below
    (and_from (stands_in p (row_at (rows_of p) r) (at_number p i)) (stands_in p (row_at (rows_of p) r) (at_number p j))
    (ap (λ x. stands_in p x (at_number p i)) at.is ∙ hi) (ap (λ x. stands_in p x (at_number p j)) at.is ∙ hj))

-- ---- the three ways to clash

slot_known : (p : Facts) → IsProblem p → (e t : ℕ) → e < length p.events → takes_slot p e t ≡ true → t < p.slots
slot_known p is e t l h =
    let run = is.runs e l in
    let inside : (nat_le run.first t && nat_lt t (run.first + run.count)) ≡ true = sym (run_of-has run.first run.count t) ∙ ap (λ slots. list_any (λ u. u == t) slots) (sym run.are) ∙ h in
    let parts = and_parts (nat_le run.first t) (nat_lt t (run.first + run.count)) inside in
    omega (arith, ltb-true t (run.first + run.count) parts.1, run.within)

takes_from : (p : Facts) (x : Pattern) (e t : ℕ) → e < length p.events → within p x e ≡ true → takes_slot p e t ≡ true → takes p x t ≡ true
takes_from p x e t l h m = any_below_at (λ g. within p x g && takes_slot p g t) e (length p.events) l (and_from (within p x e) (takes_slot p e t) h m)

by_event : (p : Facts) → IsProblem p → (i j : ℕ) → i < length (patterns_of p) → share_event p (at_number p i) (at_number p j) ≡ true → share_row (packing p) i j ≡ true
by_event p is i j l h =
    let x = at_number p i in
    let y = at_number p j in
    let e = first_event (λ g. within p x g && within p y g) (length p.events) h in
    let parts = and_parts (within p x e.0) (within p y e.0) e.2 in
    let known = lt-ltb e.0 (length p.events) e.1 in
    let hi = and_from (nat_lt e.0 (length p.events)) (within p x e.0) known parts.0 in
    let hj = and_from (nat_lt e.0 (length p.events)) (within p y e.0) known parts.1 in
    let row = event_row p is i e.0 l e.1 hi in
    shared p i j row.0 (Event e.0) row.1 hi hj

by_slot : (p : Facts) → IsProblem p → (i j : ℕ) → i < length (patterns_of p) → (at_number p i).room ≡ (at_number p j).room → share_a_slot p (at_number p i) (at_number p j) ≡ true → share_row (packing p) i j ≡ true
by_slot p is i j l room h =
    let x = at_number p i in
    let y = at_number p j in
    let e = first_event (λ g. within p x g && any_below (λ k. within p y k && share_slot p g k) (length p.events)) (length p.events) h in
    let a = and_parts (within p x e.0) (any_below (λ k. within p y k && share_slot p e.0 k) (length p.events)) e.2 in
    let f = first_event (λ k. within p y k && share_slot p e.0 k) (length p.events) a.1 in
    let b = and_parts (within p y f.0) (share_slot p e.0 f.0) f.2 in
    let t = some_slot (takes_slot p f.0) (event_at p e.0).takes b.1 in
    let hi = and_from (x.room == x.room) (takes p x t.0) (eq-eqb x.room x.room refl) (takes_from p x e.0 t.0 e.1 a.0 t.1) in
    let hj = and_from (y.room == x.room) (takes p y t.0) (eq-eqb y.room x.room (sym room)) (takes_from p y f.0 t.0 f.1 b.0 t.2) in
    let row = slot_row p is i x.room t.0 l (each_is p i l).known_room (slot_known p is e.0 t.0 e.1 t.1) hi in
    shared p i j row.0 (RoomSlot x.room t.0) row.1 hi hj

by_course : (p : Facts) → IsProblem p → (i j : ℕ) → i < length (patterns_of p) → j < length (patterns_of p) → i ≢ j → (at_number p i).room ≡ (at_number p j).room → (at_number p i).course ≡ (at_number p j).course → share_row (packing p) i j ≡ true
by_course p is i j l m differ room course =
    let x = at_number p i in
    let y = at_number p j in
    let known = each_is p i l in
    let hi = and_from (x.course == x.course) (x.room == x.room) (eq-eqb x.course x.course refl) (eq-eqb x.room x.room refl) in
    let hj = and_from (y.course == x.course) (y.room == x.room) (eq-eqb y.course x.course (sym course)) (eq-eqb y.room x.room (sym room)) in
    elim (cases_lt i j) [
      | inl before ↦ let row = course_row p is i j x.course x.room before m known.known_course known.known_room hi hj in shared p i j row.0 (CourseRoom x.course x.room) row.1 hi hj
      | inr after ↦ let row = course_row p is j i x.course x.room (omega (arith, after, differ)) l known.known_course known.known_room hj hi in shared p i j row.0 (CourseRoom x.course x.room) row.1 hi hj
    ]

pub clash_shares : (p : Facts) → IsProblem p → (i j : ℕ) → i < length (patterns_of p) → j < length (patterns_of p) → i ≢ j → (packing p).clash i j ≡ true → share_row (packing p) i j ≡ true
clash_shares p is i j l m differ h =
    let x = at_number p i in
    let y = at_number p j in
    let outer = and_parts (not (is_same x y)) (share_event p x y || ((x.room == y.room) && (share_a_slot p x y || (x.course == y.course)))) h in
    elim (or_cases (share_event p x y) ((x.room == y.room) && (share_a_slot p x y || (x.course == y.course))) outer.1) [
      | inl event ↦ by_event p is i j l event
      | inr rest ↦
          let parts = and_parts (x.room == y.room) (share_a_slot p x y || (x.course == y.course)) rest in
          let room = eqb-true x.room y.room parts.0 in
          elim (or_cases (share_a_slot p x y) (x.course == y.course) parts.1) [
            | inl slot ↦ by_slot p is i j l room slot
            | inr course ↦ by_course p is i j l m differ room (eqb-true x.course y.course course)
          ]
    ]

pub shares_clash : (p : Facts) (i j : ℕ) → i < length (patterns_of p) → j < length (patterns_of p) → i ≢ j → share_row (packing p) i j ≡ true → (packing p).clash i j ≡ true
shares_clash p i j l m differ h =
    let r = first_event (λ n. (packing p).in_base n i && (packing p).in_base n j) (length (rows_of p)) h in
    let parts = and_parts ((packing p).in_base r.0 i) ((packing p).in_base r.0 j) r.2 in
    let row = row_at (rows_of p) r.0 in
    elim (cases_lt i j) [
      | inl before ↦ base_clash p (patterns_of p) row i j (patterns_are p) before m parts.0 parts.1
      | inr after ↦ clash_back p (at_number p j) (at_number p i) (base_clash p (patterns_of p) row j i (patterns_are p) (omega (arith, after, differ)) l parts.1 parts.0)
    ]

-- ---- the row of an event

pub stands_in_event : (p : Facts) → IsProblem p → (i : ℕ) → i < length (patterns_of p) → (e r : ℕ) × (r < length (rows_of p)) × (row_at (rows_of p) r ≡ Event e) × ((packing p).in_base r i ≡ true)
stands_in_event p is i l =
    let x = at_number p i in
    let e = first_event (within p x) (length p.events) (some_event p x (each_is p i l)) in
    let h = and_from (nat_lt e.0 (length p.events)) (within p x e.0) (lt-ltb e.0 (length p.events) e.1) e.2 in
    let row = event_row p is i e.0 l e.1 h in
    (e.0, row.0, row.1.below, row.1.is, ap (λ y. stands_in p y x) row.1.is ∙ h)
