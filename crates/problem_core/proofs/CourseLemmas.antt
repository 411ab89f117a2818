-- How the table of the courses' events is filled.
use Rattle.std.proofs.Common.{ℕ, ◌≡◌, ◌+◌, ◌*◌, ◌/◌, ◌<◌, inl, inr, Bool, true, false, refl, arith, ap, sym, ◌∙◌, cond, List, [], ◌∷◌, ◌++◌, length, get_or, set, get_or-set_same, get_or-set_other}
use Rattle.std.specs.Prelude.{nat_lt}
use Rattle.std.proofs.lemmas.List.{length-set, length_push, get_or_append_left, get_or_push, get_or-map}
use Rattle.std.proofs.lemmas.Bool.{cases_eq, cases_lt, cond-true, cond-false, lt-ltb, le-ltb, eq-eqb, ne_eqb}
use Rattle.std.proofs.lemmas.Nat.{mul-add-lt, div-mul-add}
use Rattle.problem_core.specs.Facts.{Facts, course_of, no_event}
use Rattle.problem_core.specs.OfParts.{facts_of, event_of}
use Rattle.problem_core.specs.Passing.{passing-hit, passing-miss}
use Rattle.problem_core.specs.Courses.{passing, is_of_course, place_of, IsCourseTable}
use Rattle.problem_core.specs.declared.parts.Parts.{Parts}
use Rattle.problem_core.specs.declared.parts.EventPart.{EventPart}

pub course_of-parts : (p : Parts) (e : ℕ) (d : EventPart) → e < length p.events → course_of (facts_of p) e ≡ (get_or p.events e d).course
course_of-parts p e d l = ap (λ (x : Rattle.problem_core.specs.Facts.Event). x.course) (get_or-map event_of p.events e d no_event l)

record AddsEvent (n c : ℕ) (sizes order places sizes' order' places' : List ℕ) : Type 0 where
  sizes_new : sizes' ≡ set sizes c (get_or sizes c 0 + 1)
  order_new : order' ≡ cond (nat_lt (get_or sizes c 0) 12) (set order (c * 12 + get_or sizes c 0) n) order
  places_new : places' ≡ places ++ get_or sizes c 0 ∷ []

more_sizes : (p : Facts) (n c : ℕ) (sizes order places : List ℕ) → IsCourseTable p n sizes order places → c ≡ course_of p n → c < length p.students
    → (d : ℕ) → d < length p.students → get_or (set sizes c (get_or sizes c 0 + 1)) d 0 ≡ length (passing (is_of_course p d) (n + 1))
more_sizes p n c sizes order places table is known d l = elim (cases_eq d c) [
  | inl same ↦
      let hit : is_of_course p d n ≡ true = eq-eqb (course_of p n) d (sym is ∙ sym same) in
      ap (λ i. get_or (set sizes c (get_or sizes c 0 + 1)) i 0) same
      ∙ get_or-set_same sizes c (get_or sizes c 0 + 1) 0 (omega (arith, table.all_sizes))
      ∙ ap (λ x. x + 1) (table.sizes_are c known)
      ∙ ap (λ i. length (passing (is_of_course p i) n) + 1) (sym same)
      ∙ sym (ap length (passing-hit (is_of_course p d) n hit) ∙ length_push (passing (is_of_course p d) n) n)
  | inr other ↦
      let miss : is_of_course p d n ≡ false = ne_eqb (course_of p n) d (λ e. other (sym e ∙ sym is)) in
      get_or-set_other sizes c d (get_or sizes c 0 + 1) 0 other
      ∙ table.sizes_are d l
      ∙ sym (ap length (passing-miss (is_of_course p d) n miss))
]

-- the cell of another event stays
kept_cell : (order : List ℕ) (c k n i : ℕ) → (i ≡ c * 12 + k → k < 12 → ⊥) → get_or (cond (nat_lt k 12) (set order (c * 12 + k) n) order) i 0 ≡ get_or order i 0
kept_cell order c k n i other = elim (cases_lt k 12) [
  | inl l ↦ ap (λ (xs : List ℕ). get_or xs i 0) (cond-true (nat_lt k 12) (set order (c * 12 + k) n) order (lt-ltb k 12 l)) ∙ get_or-set_other order (c * 12 + k) i n 0 (λ e. other e l)
  | inr m ↦ ap (λ (xs : List ℕ). get_or xs i 0) (cond-false (nat_lt k 12) (set order (c * 12 + k) n) order (le-ltb k 12 m))
]

more_order : (p : Facts) (n c : ℕ) (sizes order places : List ℕ) → IsCourseTable p n sizes order places → c ≡ course_of p n → c < length p.students
    → (d j : ℕ) → d < length p.students → j < 12 → j < length (passing (is_of_course p d) (n + 1))
    → get_or (cond (nat_lt (get_or sizes c 0) 12) (set order (c * 12 + get_or sizes c 0) n) order) (d * 12 + j) 0 ≡ get_or (passing (is_of_course p d) (n + 1)) j 0
more_order p n c sizes order places table is known d j l few m =
    let k = get_or sizes c 0 in
    elim (cases_eq d c) [
      | inl same ↦
          let hit : is_of_course p d n ≡ true = eq-eqb (course_of p n) d (sym is ∙ sym same) in
          let size : k ≡ length (passing (is_of_course p d) n) = table.sizes_are c known ∙ ap (λ i. length (passing (is_of_course p i) n)) (sym same) in
          let more : passing (is_of_course p d) (n + 1) ≡ passing (is_of_course p d) n ++ n ∷ [] = passing-hit (is_of_course p d) n hit in
          elim (cases_eq j k) [
            | inl last ↦
                let within : d * 12 + j < length order = omega (arith, mul-add-lt d 12 j (length p.students) l few, table.all_rows) in
                ap (λ (xs : List ℕ). get_or xs (d * 12 + j) 0) (cond-true (nat_lt k 12) (set order (c * 12 + k) n) order (lt-ltb k 12 (omega arith)))
                ∙ ap (λ i. get_or (set order i n) (d * 12 + j) 0) (sym (rw (same, last) refl))
                ∙ get_or-set_same order (d * 12 + j) n 0 within
                ∙ sym (ap (λ (xs : List ℕ). get_or xs j 0) more ∙ get_or_push (passing (is_of_course p d) n) n 0 j (sym size ∙ sym last))
            | inr before ↦
                let j_in : j < length (passing (is_of_course p d) n) = omega (arith, ap length more, length_push (passing (is_of_course p d) n) n, size, m) in
                kept_cell order c k n (d * 12 + j) (λ e _. before (omega (arith, e, same)))
                ∙ table.order_is d j l few j_in
                ∙ sym (ap (λ (xs : List ℕ). get_or xs j 0) more ∙ get_or_append_left (passing (is_of_course p d) n) (n ∷ []) 0 j j_in)
          ]
      | inr other ↦
          let miss : is_of_course p d n ≡ false = ne_eqb (course_of p n) d (λ e. other (sym e ∙ sym is)) in
          let same_list : passing (is_of_course p d) (n + 1) ≡ passing (is_of_course p d) n = passing-miss (is_of_course p d) n miss in
          kept_cell order c k n (d * 12 + j) (λ e k_few. other (sym (div-mul-add d 12 j few) ∙ ap (λ x. x / 12) e ∙ div-mul-add c 12 k k_few))
          ∙ table.order_is d j l few (omega (arith, ap length same_list, m))
          ∙ sym (ap (λ (xs : List ℕ). get_or xs j 0) same_list)
    ]

more_places : (p : Facts) (n c : ℕ) (sizes order places : List ℕ) → IsCourseTable p n sizes order places → c ≡ course_of p n → c < length p.students
    → (e : ℕ) → e < n + 1 → get_or (places ++ get_or sizes c 0 ∷ []) e 0 ≡ place_of p e
more_places p n c sizes order places table is known e l = elim (cases_eq e n) [
  | inl same ↦
      get_or_push places (get_or sizes c 0) 0 e (omega (arith, table.all_places))
      ∙ table.sizes_are c known
      ∙ ap (λ i. length (passing (is_of_course p i) n)) is
      ∙ ap (place_of p) (sym same)
  | inr other ↦ get_or_append_left places (get_or sizes c 0 ∷ []) 0 e (omega (arith, table.all_places)) ∙ table.places_are e (omega arith)
]

pub IsCourseTable-more : (p : Facts) (n c : ℕ) (sizes order places sizes' order' places' : List ℕ) → IsCourseTable p n sizes order places → c ≡ course_of p n → c < length p.students
    → sizes' ≡ set sizes c (get_or sizes c 0 + 1) → order' ≡ cond (nat_lt (get_or sizes c 0) 12) (set order (c * 12 + get_or sizes c 0) n) order → places' ≡ places ++ get_or sizes c 0 ∷ []
    → IsCourseTable p (n + 1) sizes' order' places'
IsCourseTable-more p n c sizes order places sizes' order' places' table is known s o q = rw (s, o, q) (record {
  all_sizes = length-set sizes c (get_or sizes c 0 + 1) ∙ table.all_sizes;
  all_rows = rows_kept (nat_lt (get_or sizes c 0) 12) ∙ table.all_rows;
  all_places = length_push places (get_or sizes c 0) ∙ ap (λ x. x + 1) table.all_places;
  sizes_are = more_sizes p n c sizes order places table is known;
  order_is = more_order p n c sizes order places table is known;
  places_are = more_places p n c sizes order places table is known;
})
  where
    rows_kept : (b : Bool) → length (cond b (set order (c * 12 + get_or sizes c 0) n) order) ≡ length order
    rows_kept true = length-set order (c * 12 + get_or sizes c 0) n
    rows_kept false = refl
