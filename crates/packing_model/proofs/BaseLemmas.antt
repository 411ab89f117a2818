-- The base rows are the rows of the keys that enough patterns have, in order of keys.
use Rattle.std.proofs.Common.{ℕ, ◌≡◌, ◌+◌, ◌*◌, ◌<◌, ◌≤◌, zero, suc, inl, inr, Bool, refl, arith, ap, ap₂, sym, ◌∙◌, List, [], ◌∷◌, ◌++◌, length, map}
use Rattle.std.specs.Prelude.{nat_le, nat_lt}
use Rattle.std.proofs.lemmas.List.{map-append}
use Rattle.std.proofs.lemmas.Bool.{cases_Bool, lt-ltb, le-ltb, cond-true, cond-false}
use Rattle.numbers.specs.Sums.{member}
use Rattle.problem_core.specs.Facts.{Facts}
use Rattle.problem_core.specs.Courses.{passing}
use Rattle.problem_core.specs.Passing.{passing-same, passing-add}
use Rattle.problem_core.specs.Valid.{IsProblem}
use Rattle.meeting_patterns.specs.Pattern.{IsPattern, pattern_at}
use Rattle.meeting_patterns.specs.declared.pattern.Pattern.{Pattern}
use Rattle.packing_model.specs.declared.row.Row.{Row}
use Rattle.packing_model.specs.declared.row.Row.TheVariants.{Event, RoomSlot, CourseRoom}
use Rattle.packing_model.specs.Rows.{stands_in, standing, has_some, has_two, event_rows, slot_rows, course_rows, base_rows}
use Rattle.packing_model.specs.Keys.{slot_end, key_end, slot_key, course_key, row_of, keys_of, having, makes_row}
use Rattle.packing_model.proofs.KeyLemmas.{slot_below, course_below, row_of-event, row_of-slot, row_of-course, keys-row}

-- ---- numbers that pass, below a product

map_two : (f : ℕ → Row) (g : ℕ → ℕ) (xs : List ℕ) → map f (map g xs) ≡ map (λ i. f (g i)) xs
map_two f g [] = refl
map_two f g (x ∷ xs) = ap (λ ys. f (g x) ∷ ys) (map_two f g xs)

map_same : (f g : ℕ → Row) (test : ℕ → Bool) (n : ℕ) → ((i : ℕ) → i < n → f i ≡ g i) → map f (passing test n) ≡ map g (passing test n)
map_same f g test zero h = refl
map_same f g test (suc n) h =
    let rest = map_same f g test n (λ i l. h i (omega arith)) in
    elim (cases_Bool (test n)) [
      | inl hit ↦ rw hit (map-append f (passing test n) (n ∷ []) ∙ ap₂ (λ xs y. xs ++ y ∷ []) rest (h n (omega arith)) ∙ sym (map-append g (passing test n) (n ∷ [])))
      | inr miss ↦ rw miss rest
    ]

-- the same rows under other numbers
renamed : (f g : ℕ → Row) (test more : ℕ → Bool) (a n : ℕ) → ((i : ℕ) → i < n → f (a + i) ≡ g i) → ((i : ℕ) → i < n → test (a + i) ≡ more i)
    → map f (passing test (a + n)) ≡ map f (passing test a) ++ map g (passing more n)
renamed f g test more a n h k =
    ap (map f) (passing-add test a n)
    ∙ map-append f (passing test a) (map (λ i. a + i) (passing (λ i. test (a + i)) n))
    ∙ ap (λ ys. map f (passing test a) ++ ys)
    (map_two f (λ i. a + i) (passing (λ i. test (a + i)) n)
    ∙ map_same (λ i. f (a + i)) g (λ i. test (a + i)) n h
    ∙ ap (map g) (passing-same (λ i. test (a + i)) more n k))

next_row : (r w : ℕ) → suc r * w ≡ r * w + w
next_row r w = grind arith

no_rows : (w : ℕ) → 0 * w ≡ 0
no_rows w = omega arith

-- ---- enough patterns have the key exactly where its row is one

having_is : (p : Facts) → IsProblem p → (s : List Pattern) → ((i : ℕ) → i < length s → IsPattern p (pattern_at s i)) → (k : ℕ) → k < key_end p → having p s (length s) k ≡ length (standing p s (row_of p k))
having_is p is s each k l =
    ap length (passing-same (λ i. member k (keys_of p (pattern_at s i))) (λ i. stands_in p (row_of p k) (pattern_at s i)) (length s) (λ i m. keys-row p is (pattern_at s i) (each i m) k l))

pub makes-event : (p : Facts) → IsProblem p → (s : List Pattern) → ((i : ℕ) → i < length s → IsPattern p (pattern_at s i)) → (e : ℕ) → e < length p.events → makes_row p s e ≡ has_some p s (Event e)
makes-event p is s each e l =
    ap₂ nat_le (cond-true (nat_lt e (slot_end p)) 1 2 (lt-ltb e (slot_end p) (omega (arith, l))))
    (having_is p is s each e (omega (arith, l)) ∙ ap (λ row. length (standing p s row)) (row_of-event p e l))

pub makes-slot : (p : Facts) → IsProblem p → (s : List Pattern) → ((i : ℕ) → i < length s → IsPattern p (pattern_at s i)) → (r t : ℕ) → r < length p.capacity → t < p.slots → makes_row p s (slot_key p r t) ≡ has_some p s (RoomSlot r t)
makes-slot p is s each r t l m =
    let low = slot_below p r t l m in
    ap₂ nat_le (cond-true (nat_lt (slot_key p r t) (slot_end p)) 1 2 (lt-ltb (slot_key p r t) (slot_end p) low))
    (having_is p is s each (slot_key p r t) (omega (arith, low)) ∙ ap (λ row. length (standing p s row)) (row_of-slot p r t l m))

pub makes-course : (p : Facts) → IsProblem p → (s : List Pattern) → ((i : ℕ) → i < length s → IsPattern p (pattern_at s i)) → (c r : ℕ) → c < length p.students → r < length p.capacity → makes_row p s (course_key p c r) ≡ has_two p s (CourseRoom c r)
makes-course p is s each c r l m =
    ap₂ nat_le (cond-false (nat_lt (course_key p c r) (slot_end p)) 1 2 (le-ltb (course_key p c r) (slot_end p) (omega arith)))
    (having_is p is s each (course_key p c r) (course_below p c r l m) ∙ ap (λ row. length (standing p s row)) (row_of-course p c r l m))

-- ---- in order

slots_listed : (p : Facts) → IsProblem p → (s : List Pattern) → ((i : ℕ) → i < length s → IsPattern p (pattern_at s i)) → (r : ℕ) → r ≤ length p.capacity
    → map (λ j. row_of p (length p.events + j)) (passing (λ j. makes_row p s (length p.events + j)) (r * p.slots)) ≡ slot_rows p s r
slots_listed p is s each zero l = ap (λ n. map (λ (j : ℕ). row_of p (length p.events + j)) (passing (λ j. makes_row p s (length p.events + j)) n)) (no_rows p.slots)
slots_listed p is s each (suc r) l =
    let f = λ (j : ℕ). row_of p (length p.events + j) in
    let test = λ (j : ℕ). makes_row p s (length p.events + j) in
    ap (λ n. map f (passing test n)) (next_row r p.slots)
    ∙ renamed f (RoomSlot r) test (λ t. has_some p s (RoomSlot r t)) (r * p.slots) p.slots
    (λ t m. row_of-slot p r t (omega (arith, l)) m)
    (λ t m. makes-slot p is s each r t (omega (arith, l)) m)
    ∙ ap (λ xs. xs ++ map (RoomSlot r) (passing (λ t. has_some p s (RoomSlot r t)) p.slots)) (slots_listed p is s each r (omega (arith, l)))

courses_listed : (p : Facts) → IsProblem p → (s : List Pattern) → ((i : ℕ) → i < length s → IsPattern p (pattern_at s i)) → (c : ℕ) → c ≤ length p.students
    → map (λ j. row_of p (slot_end p + j)) (passing (λ j. makes_row p s (slot_end p + j)) (c * length p.capacity)) ≡ course_rows p s c
courses_listed p is s each zero l = ap (λ n. map (λ (j : ℕ). row_of p (slot_end p + j)) (passing (λ j. makes_row p s (slot_end p + j)) n)) (no_rows (length p.capacity))
courses_listed p is s each (suc c) l =
    let f = λ (j : ℕ). row_of p (slot_end p + j) in
    let test = λ (j : ℕ). makes_row p s (slot_end p + j) in
    ap (λ n. map f (passing test n)) (next_row c (length p.capacity))
    ∙ renamed f (CourseRoom c) test (λ r. has_two p s (CourseRoom c r)) (c * length p.capacity) (length p.capacity)
    (λ r m. row_of-course p c r (omega (arith, l)) m)
    (λ r m. makes-course p is s each c r (omega (arith, l)) m)
    ∙ ap (λ xs. xs ++ map (CourseRoom c) (passing (λ r. has_two p s (CourseRoom c r)) (length p.capacity))) (courses_listed p is s each c (omega (arith, l)))

pub rows_listed : (p : Facts) → IsProblem p → (s : List Pattern) → ((i : ℕ) → i < length s → IsPattern p (pattern_at s i)) → map (row_of p) (passing (makes_row p s) (key_end p)) ≡ base_rows p s
rows_listed p is s each =
    let test = makes_row p s in
    let events : map (row_of p) (passing test (length p.events)) ≡ event_rows p s =
    map_same (row_of p) Event test (length p.events) (λ e l. row_of-event p e l)
    ∙ ap (map Event) (passing-same test (λ e. has_some p s (Event e)) (length p.events) (λ e l. makes-event p is s each e l)) in
    let slots : map (row_of p) (passing test (slot_end p)) ≡ event_rows p s ++ slot_rows p s (length p.capacity) =
    renamed (row_of p) (λ j. row_of p (length p.events + j)) test (λ j. test (length p.events + j)) (length p.events) (length p.capacity * p.slots) (λ i l. refl) (λ i l. refl)
    ∙ ap₂ (λ xs ys. xs ++ ys) events (slots_listed p is s each (length p.capacity) (omega arith)) in
    renamed (row_of p) (λ j. row_of p (slot_end p + j)) test (λ j. test (slot_end p + j)) (slot_end p) (length p.students * length p.capacity) (λ i l. refl) (λ i l. refl)
    ∙ ap₂ (λ xs ys. xs ++ ys) slots (courses_listed p is s each (length p.students) (omega arith))
