-- Keys: the row that a key stands for, and the keys that a pattern has.
use Rattle.std.proofs.Common.{ℕ, ◌≡◌, ◌+◌, ◌-◌, ◌*◌, ◌/◌, ◌%◌, ◌<◌, ◌≤◌, inl, inr, zero, suc, Bool, true, false, ◌&&◌, ◌||◌, refl, arith, ap, ap₂, sym, ◌∙◌, subst, List, [], ◌∷◌, length, map}
use Rattle.std.specs.Prelude.{◌==◌, nat_lt}
use Rattle.std.specs.List.{list_any, flat_map}
use Rattle.std.proofs.lemmas.Nat.{mul-add-lt, div-mul-add, mod-mul-add, same_from_place, div_below, mod_below, div-add-mod'}
use Rattle.std.proofs.Math.Nat.{mul_comm}
use Rattle.std.proofs.lemmas.Bool.{cases_eq, cases_lt, cases_Bool, and_parts, and_from, and_left, and_right, or_left, or_right, eq-eqb, eqb-true, ne_eqb, true≢false, lt-ltb, le-ltb, cond-true, cond-false}
use Rattle.numbers.specs.Sums.{member, distinct}
use Rattle.numbers.specs.Below.{any_below}
use Rattle.problem_core.specs.Below.{any_below_none}
use Rattle.problem_core.specs.Facts.{Facts, event_at, takes_slot, share_slot, course_of}
use Rattle.problem_core.specs.Courses.{events_of, is_of_course, place_of}
use Rattle.problem_core.specs.Passing.{any_passing}
use Rattle.problem_core.specs.Valid.{IsProblem}
use Rattle.meeting_patterns.specs.Pattern.{IsPattern, within, has_bit}
use Rattle.meeting_patterns.specs.declared.pattern.Pattern.{Pattern}
use Rattle.packing_model.specs.declared.row.Row.TheVariants.{Event, RoomSlot, CourseRoom}
use Rattle.packing_model.specs.Rows.{takes, stands_in}
use Rattle.packing_model.specs.Keys.{slot_end, key_end, slot_key, course_key, slot_row, course_row, row_of, own_keys, keys_of}
use Rattle.packing_model.proofs.DistinctLemmas.{or_none, member-any, member-append, member-flat, any_below-one, any_below-same, passing_member, run_member, member-map, map_member, distinct-append, distinct-passing, distinct-run, distinct-map, distinct-flat, flat_member}

-- ---- where the keys are

pub slot_below : (p : Facts) (r t : ℕ) → r < length p.capacity → t < p.slots → slot_key p r t < slot_end p
slot_below p r t l m = omega (arith, mul-add-lt r p.slots t (length p.capacity) l m, mul_comm (length p.capacity) p.slots)

pub course_below : (p : Facts) (c r : ℕ) → c < length p.students → r < length p.capacity → course_key p c r < key_end p
course_below p c r l m = omega (arith, mul-add-lt c (length p.capacity) r (length p.students) l m, mul_comm (length p.students) (length p.capacity))

pub row_of-event : (p : Facts) (e : ℕ) → e < length p.events → row_of p e ≡ Event e
row_of-event p e l = cond-true (nat_lt e (length p.events)) (Event e) _ (lt-ltb e (length p.events) l)

pub row_of-slot : (p : Facts) (r t : ℕ) → r < length p.capacity → t < p.slots → row_of p (slot_key p r t) ≡ RoomSlot r t
row_of-slot p r t l m =
    let k = slot_key p r t in
    let place : k - length p.events ≡ r * p.slots + t = omega arith in
    cond-false (nat_lt k (length p.events)) (Event k) _ (le-ltb k (length p.events) (omega arith))
    ∙ cond-true (nat_lt k (slot_end p)) (slot_row p.slots (k - length p.events)) _ (lt-ltb k (slot_end p) (slot_below p r t l m))
    ∙ ap (slot_row p.slots) place
    ∙ ap₂ RoomSlot (div-mul-add r p.slots t m) (mod-mul-add r p.slots t m)

pub row_of-course : (p : Facts) (c r : ℕ) → c < length p.students → r < length p.capacity → row_of p (course_key p c r) ≡ CourseRoom c r
row_of-course p c r l m =
    let k = course_key p c r in
    let place : k - slot_end p ≡ c * length p.capacity + r = omega arith in
    cond-false (nat_lt k (length p.events)) (Event k) _ (le-ltb k (length p.events) (omega arith))
    ∙ cond-false (nat_lt k (slot_end p)) (slot_row p.slots (k - length p.events)) _ (le-ltb k (slot_end p) (omega arith))
    ∙ ap (course_row (length p.capacity)) place
    ∙ ap₂ CourseRoom (div-mul-add c (length p.capacity) r m) (mod-mul-add c (length p.capacity) r m)

-- ---- the keys of an event of the pattern's course

low_key : (p : Facts) (r e k : ℕ) → k < length p.events → member k (map (slot_key p r) (event_at p e).takes) ≡ false
low_key p r e k l = map_member (slot_key p r) k (event_at p e).takes (λ t _ same. absurd (omega (arith, same, l)))

own_event : (p : Facts) (x : Pattern) (e k : ℕ) → k < length p.events → member k (own_keys p x e) ≡ (within p x e && (e == k))
own_event p x e k l = elim (cases_Bool (within p x e)) [
  | inl in_it ↦ rw in_it (ap (λ b. (e == k) || b) (low_key p x.room e k l) ∙ or_none (e == k))
  | inr out ↦ rw out refl
]

slot_injective : (p : Facts) (r a b : ℕ) → slot_key p r a ≡ slot_key p r b → a ≡ b
slot_injective p r a b h = omega arith

-- slots of the problem
event_slot : (p : Facts) → IsProblem p → (e t : ℕ) → e < length p.events → member t (event_at p e).takes ≡ true → t < p.slots
event_slot p is e t l h =
    let run = is.runs e l in
    let place = run_member run.first run.count t (sym (ap (member t) run.are) ∙ h) in
    omega (arith, place.1, run.within)

member-slot : (p : Facts) → IsProblem p → (q e r t : ℕ) → e < length p.events → t < p.slots → member (slot_key p r t) (map (slot_key p q) (event_at p e).takes) ≡ ((q == r) && takes_slot p e t)
member-slot p is q e r t l m = elim (cases_eq q r) [
  | inl same ↦
      rw (same, eq-eqb r r refl) (member-map (slot_key p r) (slot_injective p r) t (event_at p e).takes ∙ member-any t (event_at p e).takes)
  | inr other ↦
      rw (ne_eqb q r other) (map_member (slot_key p q) (slot_key p r t) (event_at p e).takes (λ u h same.
      other (same_from_place q u r t p.slots (event_slot p is e u l h) m (omega (arith, same))).0))
]

own_slot : (p : Facts) → IsProblem p → (x : Pattern) (e r t : ℕ) → e < length p.events → t < p.slots → member (slot_key p r t) (own_keys p x e) ≡ (within p x e && ((x.room == r) && takes_slot p e t))
own_slot p is x e r t l m = elim (cases_Bool (within p x e)) [
  | inl in_it ↦ rw in_it (ap (λ b. b || member (slot_key p r t) (map (slot_key p x.room) (event_at p e).takes)) (ne_eqb e (slot_key p r t) (λ h. absurd (omega (arith, h, l)))) ∙ member-slot p is x.room e r t l m)
  | inr out ↦ rw out refl
]

-- nothing above the slots
own_high : (p : Facts) → IsProblem p → (x : Pattern) (e k : ℕ) → x.room < length p.capacity → e < length p.events → slot_end p ≤ k → member k (own_keys p x e) ≡ false
own_high p is x e k room l high = elim (cases_Bool (within p x e)) [
  | inl in_it ↦ rw in_it (ap₂ (λ a b. a || b) (ne_eqb e k (λ h. absurd (omega (arith, h, l, high))))
      (map_member (slot_key p x.room) k (event_at p e).takes (λ u h same. absurd (omega (arith, same, high, slot_below p x.room u room (event_slot p is e u l h))))))
  | inr out ↦ rw out refl
]

of_course : (p : Facts) (x : Pattern) (e : ℕ) (b : Bool) → (is_of_course p x.course e && (within p x e && b)) ≡ (within p x e && b)
of_course p x e b = both (is_of_course p x.course e) (has_bit x.mask (place_of p e)) b
  where
    both : (c m b : Bool) → (c && ((c && m) && b)) ≡ ((c && m) && b)
    both true m b = refl
    both false m b = refl

-- ---- the keys of a pattern

-- over the events of the pattern's course
flat_below : (p : Facts) (x : Pattern) (k : ℕ) → member k (flat_map (own_keys p x) (events_of p x.course)) ≡ any_below (λ e. is_of_course p x.course e && member k (own_keys p x e)) (length p.events)
flat_below p x k = member-flat k (own_keys p x) (events_of p x.course) ∙ any_passing (is_of_course p x.course) (λ e. member k (own_keys p x e)) (length p.events)

keys_split : (p : Facts) (x : Pattern) (k : ℕ) → member k (keys_of p x) ≡ (member k (flat_map (own_keys p x) (events_of p x.course)) || (course_key p x.course x.room == k))
keys_split p x k =
    member-append k (flat_map (own_keys p x) (events_of p x.course)) (course_key p x.course x.room ∷ [])
    ∙ ap (λ b. member k (flat_map (own_keys p x) (events_of p x.course)) || b) (or_none (course_key p x.course x.room == k))

-- a key below the courses
keys_low : (p : Facts) (x : Pattern) (k : ℕ) → k < slot_end p → member k (keys_of p x) ≡ any_below (λ e. is_of_course p x.course e && member k (own_keys p x e)) (length p.events)
keys_low p x k l =
    keys_split p x k
    ∙ ap (λ b. member k (flat_map (own_keys p x) (events_of p x.course)) || b) (ne_eqb (course_key p x.course x.room) k (λ h. absurd (omega (arith, h, l))))
    ∙ or_none (member k (flat_map (own_keys p x) (events_of p x.course)))
    ∙ flat_below p x k

pub keys-event : (p : Facts) (x : Pattern) (k : ℕ) → k < length p.events → member k (keys_of p x) ≡ stands_in p (Event k) x
keys-event p x k l =
    keys_low p x k (omega (arith, l))
    ∙ any_below-same (λ e. is_of_course p x.course e && member k (own_keys p x e)) (λ e. within p x e && (e == k)) (length p.events)
    (λ e m. ap (λ b. is_of_course p x.course e && b) (own_event p x e k l) ∙ of_course p x e (e == k))
    ∙ any_below-one (λ e. within p x e && (e == k)) k (length p.events) l (λ e m other. and_right (within p x e) (e == k) (ne_eqb e k other))
    ∙ ap (λ b. within p x k && b) (eq-eqb k k refl) ∙ and_swap (within p x k) ∙ sym (ap (λ b. b && within p x k) (lt-ltb k (length p.events) l))
  where
    and_swap : (b : Bool) → (b && true) ≡ (true && b)
    and_swap true = refl
    and_swap false = refl

pub keys-slot : (p : Facts) → IsProblem p → (x : Pattern) (r t : ℕ) → r < length p.capacity → t < p.slots → member (slot_key p r t) (keys_of p x) ≡ stands_in p (RoomSlot r t) x
keys-slot p is x r t l m =
    keys_low p x (slot_key p r t) (slot_below p r t l m)
    ∙ any_below-same (λ e. is_of_course p x.course e && member (slot_key p r t) (own_keys p x e)) (λ e. within p x e && ((x.room == r) && takes_slot p e t)) (length p.events)
    (λ e n. ap (λ b. is_of_course p x.course e && b) (own_slot p is x e r t n m) ∙ of_course p x e ((x.room == r) && takes_slot p e t))
    ∙ taken (x.room == r)
  where
    taken : (here : Bool) → any_below (λ e. within p x e && (here && takes_slot p e t)) (length p.events) ≡ (here && takes p x t)
    taken true = refl
    taken false = any_below_none (λ e. within p x e && false) (length p.events) (λ e n. and_right (within p x e) false refl)

pub keys-course : (p : Facts) → IsProblem p → (x : Pattern) (c r : ℕ) → x.room < length p.capacity → r < length p.capacity → member (course_key p c r) (keys_of p x) ≡ stands_in p (CourseRoom c r) x
keys-course p is x c r room l =
    keys_split p x (course_key p c r)
    ∙ ap (λ b. b || (course_key p x.course x.room == course_key p c r))
    (flat_below p x (course_key p c r) ∙ any_below_none (λ e. is_of_course p x.course e && member (course_key p c r) (own_keys p x e)) (length p.events)
    (λ e m. and_right (is_of_course p x.course e) _ (own_high p is x e (course_key p c r) room m (omega arith))))
    ∙ same_pair
  where
    same_pair : (course_key p x.course x.room == course_key p c r) ≡ ((x.course == c) && (x.room == r))
    same_pair = elim (cases_eq (course_key p x.course x.room) (course_key p c r)) [
      | inl same ↦
          let parts = same_from_place x.course x.room c r (length p.capacity) room l (omega (arith, same)) in
          eq-eqb (course_key p x.course x.room) (course_key p c r) same ∙ sym (and_from (x.course == c) (x.room == r) (eq-eqb x.course c parts.0) (eq-eqb x.room r parts.1))
      | inr differ ↦ ne_eqb (course_key p x.course x.room) (course_key p c r) differ ∙ sym (apart differ)
    ]
      where
        apart : ((course_key p x.course x.room ≡ course_key p c r) → ⊥) → ((x.course == c) && (x.room == r)) ≡ false
        apart differ = elim (cases_eq x.course c) [
          | inr other ↦ and_left (x.course == c) (x.room == r) (ne_eqb x.course c other)
          | inl one ↦ elim (cases_eq x.room r) [
            | inr other ↦ and_right (x.course == c) (x.room == r) (ne_eqb x.room r other)
            | inl two ↦ absurd (differ (ap₂ (λ d q. course_key p d q) one two))
          ]
        ]

-- ---- each key is one of three

some_columns : (j a w : ℕ) → j < a * w → 0 < w
some_columns j a zero l = absurd (omega (arith, l))
some_columns j a (suc w) l = omega arith

record IsCell (j rows columns : ℕ) : Type 0 where
  row : ℕ
  column : ℕ
  known_row : row < rows
  known_column : column < columns
  place : j ≡ row * columns + column

cell_of : (j rows columns : ℕ) → j < rows * columns → IsCell j rows columns
cell_of j rows columns l =
    let some = some_columns j rows columns l in
    record {
      row = j / columns;
      column = j % columns;
      known_row = div_below j columns rows some l;
      known_column = mod_below j columns some;
      place = sym (div-add-mod' j columns);
    }

pub keys-row : (p : Facts) → IsProblem p → (x : Pattern) → IsPattern p x → (k : ℕ) → k < key_end p → member k (keys_of p x) ≡ stands_in p (row_of p k) x
keys-row p is x pattern k l = elim (cases_lt k (length p.events)) [
  | inl event ↦ keys-event p x k event ∙ ap (λ row. stands_in p row x) (sym (row_of-event p k event))
  | inr more ↦ elim (cases_lt k (slot_end p)) [
    | inl slot ↦
        let at = cell_of (k - length p.events) (length p.capacity) p.slots (omega (arith, slot, more)) in
        let same : slot_key p at.row at.column ≡ k = omega (arith, at.place, more) in
        subst (λ i. member i (keys_of p x) ≡ stands_in p (row_of p i) x) same
        (keys-slot p is x at.row at.column at.known_row at.known_column ∙ ap (λ row. stands_in p row x) (sym (row_of-slot p at.row at.column at.known_row at.known_column)))
    | inr course ↦
        let at = cell_of (k - slot_end p) (length p.students) (length p.capacity) (omega (arith, course, l)) in
        let same : course_key p at.row at.column ≡ k = omega (arith, at.place, course) in
        subst (λ i. member i (keys_of p x) ≡ stands_in p (row_of p i) x) same
        (keys-course p is x at.row at.column pattern.known_room at.known_column ∙ ap (λ row. stands_in p row x) (sym (row_of-course p at.row at.column at.known_row at.known_column)))
  ]
]

-- ---- a pattern's keys are keys, and differ

pub keys_known : (p : Facts) → IsProblem p → (x : Pattern) → IsPattern p x → (k : ℕ) → member k (keys_of p x) ≡ true → k < key_end p
keys_known p is x pattern k h = elim (cases_lt k (key_end p)) [
  | inl less ↦ less
  | inr more ↦
      let none : any_below (λ e. is_of_course p x.course e && member k (own_keys p x e)) (length p.events) ≡ false = any_below_none _ (length p.events)
      (λ e m. and_right (is_of_course p x.course e) _ (own_high p is x e k pattern.known_room m (omega (arith, more)))) in
      let last = ne_eqb (course_key p x.course x.room) k (λ same. absurd (omega (arith, same, more, course_below p x.course x.room pattern.known_course pattern.known_room))) in
      absurd (true≢false (sym h ∙ keys_split p x k ∙ ap₂ (λ a b. a || b) (flat_below p x k ∙ none) last))
]

own_distinct : (p : Facts) → IsProblem p → (x : Pattern) (e : ℕ) → e < length p.events → distinct (own_keys p x e) ≡ true
own_distinct p is x e l = elim (cases_Bool (within p x e)) [
  | inr out ↦ rw out refl
  | inl in_it ↦
      let run = is.runs e l in
      let slots : distinct (map (slot_key p x.room) (event_at p e).takes) ≡ true =
      distinct-map (slot_key p x.room) (slot_injective p x.room) (event_at p e).takes (ap distinct run.are ∙ distinct-run run.first run.count) in
      rw in_it (rw (low_key p x.room e e l, slots) refl)
]

-- a key of two events of the course is one of one event
own_apart : (p : Facts) → IsProblem p → (x : Pattern) → x.room < length p.capacity → (k e g : ℕ) → e < length p.events → g < length p.events → is_of_course p x.course e ≡ true → is_of_course p x.course g ≡ true
    → member k (own_keys p x e) ≡ true → member k (own_keys p x g) ≡ true → e ≡ g
own_apart p is x room k e g le lg ce cg he hg = elim (cases_lt k (length p.events)) [
  | inl event ↦
      let a = and_parts (within p x e) (e == k) (sym (own_event p x e k event) ∙ he) in
      let b = and_parts (within p x g) (g == k) (sym (own_event p x g k event) ∙ hg) in
      eqb-true e k a.1 ∙ sym (eqb-true g k b.1)
  | inr more ↦ elim (cases_lt k (slot_end p)) [
    | inr high ↦ absurd (true≢false (sym he ∙ own_high p is x e k room le high))
    | inl slot ↦
        let at = cell_of (k - length p.events) (length p.capacity) p.slots (omega (arith, slot, more)) in
        let same : k ≡ slot_key p at.row at.column = omega (arith, at.place, more) in
        let a = slot_taken at.row at.column e le at.known_column (sym (ap (λ i. member i (own_keys p x e)) same) ∙ he) in
        let b = slot_taken at.row at.column g lg at.known_column (sym (ap (λ i. member i (own_keys p x g)) same) ∙ hg) in
        let courses : course_of p e ≡ course_of p g = eqb-true (course_of p e) x.course ce ∙ sym (eqb-true (course_of p g) x.course cg) in
        elim (cases_eq e g) [
          | inl one ↦ one
          | inr differ ↦ elim (cases_lt e g) [
            | inl less ↦ absurd (true≢false (sym (shared e g at.column a b) ∙ is.apart e g less lg courses))
            | inr greater ↦ absurd (true≢false (sym (shared g e at.column b a) ∙ is.apart g e (omega (arith, greater, differ_less e g greater differ)) le (sym courses)))
          ]
        ]
  ]
]
  where
    slot_taken : (r t e : ℕ) → e < length p.events → t < p.slots → member (slot_key p r t) (own_keys p x e) ≡ true → takes_slot p e t ≡ true
    slot_taken r t e l m h =
        (and_parts (x.room == r) (takes_slot p e t) (and_parts (within p x e) ((x.room == r) && takes_slot p e t) (sym (own_slot p is x e r t l m) ∙ h)).1).1

    differ_less : (e g : ℕ) → g ≤ e → (e ≡ g → ⊥) → g < e
    differ_less e g l differ = elim (cases_lt g e) [ inl less ↦ less | inr more' ↦ absurd (differ (omega (arith, l, more'))) ]

    -- a slot that both take
    both_take : (ss ts : List ℕ) (t : ℕ) → list_any (λ s. s == t) ss ≡ true → list_any (λ s. s == t) ts ≡ true → list_any (λ s. list_any (λ u. u == s) ts) ss ≡ true
    both_take [] ts t h k = absurd (true≢false (sym h))
    both_take (s ∷ ss) ts t h k = elim (cases_eq s t) [
      | inl same ↦ or_left (list_any (λ u. u == s) ts) _ (ap (λ v. list_any (λ u. u == v) ts) same ∙ k)
      | inr other ↦ or_right (list_any (λ u. u == s) ts) _ (both_take ss ts t (sym (ap (λ b. b || list_any (λ v. v == t) ss) (ne_eqb s t other)) ∙ h) k)
    ]

    shared : (e g t : ℕ) → takes_slot p e t ≡ true → takes_slot p g t ≡ true → share_slot p e g ≡ true
    shared e g t a b = both_take (event_at p e).takes (event_at p g).takes t a b

pub keys-distinct : (p : Facts) → IsProblem p → (x : Pattern) → IsPattern p x → distinct (keys_of p x) ≡ true
keys-distinct p is x pattern =
    let test = is_of_course p x.course in
    let n = length p.events in
    distinct-append (flat_map (own_keys p x) (events_of p x.course)) (course_key p x.course x.room ∷ [])
    (distinct-flat (own_keys p x) (events_of p x.course) (distinct-passing test n)
    (λ e m. own_distinct p is x e (passing_member test n e m).0)
    (λ k e g me mg he hg. own_apart p is x pattern.known_room k e g (passing_member test n e me).0 (passing_member test n g mg).0 (passing_member test n e me).1 (passing_member test n g mg).1 he hg))
    refl
    (λ k m.
    let w = flat_member k (own_keys p x) (events_of p x.course) m in
    ap (λ b. b || false) (ne_eqb (course_key p x.course x.room) k (λ same.
    absurd (true≢false (sym w.2 ∙ own_high p is x w.0 k pattern.known_room (passing_member test n w.0 w.1).0 (omega (arith, same)))))))
