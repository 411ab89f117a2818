-- The list of all patterns: a step at a time, and that it holds each pattern once, in order.
use Rattle.std.proofs.Common.{ℕ, ◌≡◌, ◌≢◌, ◌+◌, ◌-◌, ◌<◌, ◌≤◌, ◌^◌, ◌⊎◌, inl, inr, zero, suc, Bool, true, not, ◌&&◌, refl, arith, ap, ap₂, sym, ◌∙◌, List, [], ◌∷◌, ◌++◌, length, get_or, subst}
use Rattle.std.specs.Prelude.{◌==◌, map}
use Rattle.std.proofs.lemmas.List.{get_or-map, length-map, length-append, get_or_append_left, get_or-append_right, get_or-append-add}
use Rattle.std.proofs.lemmas.Bool.{cases_eq, cases_lt, cases_Bool, and_parts, and_from, and_right, and_left, not-true, not-false, not_from_true, not_from_false, eqb-false, ne_eqb}
use Rattle.numbers.specs.Below.{any_below, none_below}
use Rattle.problem_core.specs.Below.{any_below_none}
use Rattle.problem_core.specs.Facts.{Facts, suits}
use Rattle.problem_core.specs.Courses.{passing, meetings_of}
use Rattle.problem_core.specs.Passing.{nth_is, at_place}
use Rattle.meeting_patterns.specs.Pattern.{within, IsPattern, IsBefore, ArePatterns, pattern_at, no_pattern, pattern, is_mask, masks_at, in_rooms, in_courses, patterns_of}
use Rattle.meeting_patterns.specs.declared.pattern.Pattern.{Pattern}

-- ---- a mask that passes is a pattern, and the other way round

mask_is : (p : Facts) (c r m : ℕ) → c < length p.students → r < length p.capacity → m < 2 ^ meetings_of p c → is_mask p c r m ≡ true → IsPattern p (pattern c r m)
mask_is p c r m l k few h =
    let parts = and_parts (not (m == 0)) (not (any_below (λ e. within p (pattern c r m) e && not (suits p e r)) (length p.events))) h in
    record {
      known_course = l;
      known_room = k;
      some = let some : m ≢ 0 = eqb-false m 0 (not-true (m == 0) parts.0) in omega arith;
      of_course = few;
      suitable = λ e i w.
          let none = none_below (λ f. within p (pattern c r m) f && not (suits p f r)) e (length p.events) (not-true (any_below (λ f. within p (pattern c r m) f && not (suits p f r)) (length p.events)) parts.1) i in
          not-false (suits p e r) (sym (ap (λ b. b && not (suits p e r)) w) ∙ none);
    }

is_mask-from : (p : Facts) (x : Pattern) → IsPattern p x → is_mask p x.course x.room x.mask ≡ true
is_mask-from p x is =
    and_from (not (x.mask == 0)) _ (not_from_false (x.mask == 0) (ne_eqb x.mask 0 (λ z. absurd (omega (arith, is.some, z)))))
    (not_from_false (any_below (λ e. within p x e && not (suits p e x.room)) (length p.events)) (any_below_none (λ e. within p x e && not (suits p e x.room)) (length p.events) (λ e l. elim (cases_Bool (within p x e)) [
      | inl w ↦ and_right (within p x e) (not (suits p e x.room)) (not_from_true (suits p e x.room) (is.suitable e l w))
      | inr other ↦ and_left (within p x e) (not (suits p e x.room)) other
    ])))

-- ---- facts on lists of patterns, and of two lists joined

pub record IsBlock (p : Facts) (s : List Pattern) (In : Pattern → Type 0) : Type 0 where
  pub each : (i : ℕ) → i < length s → IsPattern p (pattern_at s i) × In (pattern_at s i)
  pub all : (x : Pattern) → IsPattern p x → In x → (i : ℕ) × (i < length s) × (pattern_at s i ≡ x)
  pub rising : (i j : ℕ) → i < j → j < length s → IsBefore (pattern_at s i) (pattern_at s j)

joined : (p : Facts) (xs ys : List Pattern) (A B C : Pattern → Type 0) → IsBlock p xs A → IsBlock p ys B
    → ((x : Pattern) → A x → C x) → ((x : Pattern) → B x → C x) → ((x : Pattern) → C x → A x ⊎ B x) → ((x y : Pattern) → A x → B y → IsBefore x y)
    → IsBlock p (xs ++ ys) C
joined p xs ys A B C a b from_a from_b split before = record {
  each = λ i l. elim (cases_lt i (length xs)) [
    | inl left ↦ let e = get_or_append_left xs ys no_pattern i left in rw e ((a.each i left).0, from_a (pattern_at xs i) (a.each i left).1)
    | inr right ↦
        let e = get_or-append_right xs ys (length xs) i no_pattern refl right in
        let k : i - length xs < length ys = omega (arith, length-append xs ys) in
        rw e ((b.each (i - length xs) k).0, from_b (pattern_at ys (i - length xs)) (b.each (i - length xs) k).1)
  ];
  all = λ x is c. elim (split x c) [
    | inl in_a ↦ let f = a.all x is in_a in (f.0, omega (arith, length-append xs ys, f.1), get_or_append_left xs ys no_pattern f.0 f.1 ∙ f.2)
    | inr in_b ↦ let f = b.all x is in_b in (length xs + f.0, omega (arith, length-append xs ys, f.1), get_or-append-add xs ys f.0 no_pattern ∙ f.2)
  ];
  rising = λ i j l m. elim (cases_lt j (length xs)) [
    | inl both ↦
        rw (get_or_append_left xs ys no_pattern i (omega arith), get_or_append_left xs ys no_pattern j both) (a.rising i j l both)
    | inr right ↦
        let k : j - length xs < length ys = omega (arith, length-append xs ys) in
        elim (cases_lt i (length xs)) [
          | inl left ↦
              rw (get_or_append_left xs ys no_pattern i left, get_or-append_right xs ys (length xs) j no_pattern refl right)
              (before (pattern_at xs i) (pattern_at ys (j - length xs)) (a.each i left).1 (b.each (j - length xs) k).1)
          | inr later ↦
              rw (get_or-append_right xs ys (length xs) i no_pattern refl later, get_or-append_right xs ys (length xs) j no_pattern refl right)
              (b.rising (i - length xs) (j - length xs) (omega arith) k)
        ]
  ];
}

empty : (p : Facts) (A : Pattern → Type 0) → ((x : Pattern) → A x → ⊥) → IsBlock p [] A
empty p A none = record {
  each = λ i l. absurd (omega arith);
  all = λ x is a. absurd (none x a);
  rising = λ i j l m. absurd (omega arith);
}

-- ---- the masks of one course and room

earlier_less : (test : ℕ → Bool) (m n : ℕ) → length (passing test m) < length (passing test n) → m < n
earlier_less test m n l = elim (cases_lt m n) [
  | inl less ↦ less
  | inr more ↦ absurd (omega (arith, passing-le test n m more, l))
]
  where
    push : (xs : List ℕ) (y : ℕ) → length (xs ++ y ∷ []) ≡ length xs + 1
    push xs y = omega (arith, length-append xs (y ∷ []))

    passing-le : (test : ℕ → Bool) (n m : ℕ) → n ≤ m → length (passing test n) ≤ length (passing test m)
    passing-le test n zero l = let e : n ≡ 0 = omega arith in rw e (omega arith)
    passing-le test n (suc m) l = elim (cases_eq n (suc m)) [
      | inl same ↦ rw same (omega arith)
      | inr less ↦
          let rest = passing-le test n m (omega arith) in
          elim (cases_Bool (test m)) [
            | inl hit ↦ rw hit (omega (arith, push (passing test m) m, rest))
            | inr miss ↦ rw miss rest
          ]
    ]

record IsAt (c r : ℕ) (x : Pattern) : Type 0 where
  course : x.course ≡ c
  room : x.room ≡ r

at_one : (p : Facts) (c r : ℕ) → c < length p.students → r < length p.capacity → IsBlock p (map (pattern c r) (masks_at p c r)) (IsAt c r)
at_one p c r l k =
    let n = 2 ^ meetings_of p c in
    let test = is_mask p c r in
    let whole = length-map (masks_at p c r) (pattern c r) in
    record {
      each = λ i m.
          let j : i < length (masks_at p c r) = omega (arith, whole, m) in
          let nth = nth_is test n i j in
          let e = get_or-map (pattern c r) (masks_at p c r) i 0 no_pattern j in
          rw e (mask_is p c r (get_or (masks_at p c r) i 0) l k nth.below nth.passes, record { course = refl; room = refl });
      all = λ x is at.
          let hit : test x.mask ≡ true = ap₂ (λ d q. is_mask p d q x.mask) (sym at.course) (sym at.room) ∙ is_mask-from p x is in
          let few : x.mask < n = subst (λ d. x.mask < 2 ^ meetings_of p d) at.course is.of_course in
          let place = at_place test n x.mask few hit in (
            length (passing test x.mask),
            omega (arith, whole, place.0),
            get_or-map (pattern c r) (masks_at p c r) (length (passing test x.mask)) 0 no_pattern place.0 ∙ ap (pattern c r) place.1 ∙ named x c r at,
          );
      rising = λ i j less m.
          let b : j < length (masks_at p c r) = omega (arith, whole, m) in
          let a : i < length (masks_at p c r) = omega arith in
          let first = nth_is test n i a in
          let second = nth_is test n j b in
          rw (get_or-map (pattern c r) (masks_at p c r) i 0 no_pattern a, get_or-map (pattern c r) (masks_at p c r) j 0 no_pattern b)
          (inr (refl, inr (refl, earlier_less test (get_or (masks_at p c r) i 0) (get_or (masks_at p c r) j 0) (omega (arith, first.place, second.place)))));
    }
  where
    named : (x : Pattern) (c r : ℕ) → IsAt c r x → pattern c r x.mask ≡ x
    named x c r at = rw (sym at.course, sym at.room) refl

-- ---- rooms and courses below a bound

record IsInRooms (c r : ℕ) (x : Pattern) : Type 0 where
  course : x.course ≡ c
  room : x.room < r

in_rooms_are : (p : Facts) (c r : ℕ) → c < length p.students → r ≤ length p.capacity → IsBlock p (in_rooms p c r) (IsInRooms c r)
in_rooms_are p c zero l k = empty p (IsInRooms c 0) (λ x h. absurd (omega (arith, h.room)))
in_rooms_are p c (suc r) l k =
    joined p (in_rooms p c r) (map (pattern c r) (masks_at p c r)) (IsInRooms c r) (IsAt c r) (IsInRooms c (suc r)) (in_rooms_are p c r l (omega arith)) (at_one p c r l (omega arith))
    (λ x h. record { course = h.course; room = omega (arith, h.room) })
    (λ x h. record { course = h.course; room = omega (arith, h.room) })
    (λ x h. elim (cases_eq x.room r) [ inl same ↦ inr (record { course = h.course; room = same }) | inr less ↦ inl (record { course = h.course; room = omega (arith, h.room) }) ])
    (λ x y h g. inr (h.course ∙ sym g.course, inl (omega (arith, h.room, g.room))))

record IsInCourses (p : Facts) (c : ℕ) (x : Pattern) : Type 0 where
  course : x.course < c

in_courses_are : (p : Facts) (c : ℕ) → c ≤ length p.students → IsBlock p (in_courses p c) (IsInCourses p c)
in_courses_are p zero l = empty p (IsInCourses p 0) (λ x h. absurd (omega (arith, h.course)))
in_courses_are p (suc c) l =
    joined_known p c (in_courses p c) (in_rooms p c (length p.capacity)) (in_courses_are p c (omega arith)) (in_rooms_are p c (length p.capacity) (omega arith) (omega arith))
  where
    rooms_known : (p : Facts) (c : ℕ) (xs : List Pattern) → IsBlock p xs (IsInCourses p c) → IsBlock p xs (λ x. IsInCourses p c x × (x.room < length p.capacity))
    rooms_known p c xs a = record {
      each = λ i m. ((a.each i m).0, ((a.each i m).1, (a.each i m).0.known_room));
      all = λ x is h. a.all x is h.0;
      rising = a.rising;
    }

    -- the rooms of a pattern are known, so "in a room below the number of rooms" says nothing more
    joined_known : (p : Facts) (c : ℕ) (xs ys : List Pattern) → IsBlock p xs (IsInCourses p c) → IsBlock p ys (IsInRooms c (length p.capacity)) → IsBlock p (xs ++ ys) (IsInCourses p (suc c))
    joined_known p c xs ys a b =
        let block = joined p xs ys (λ x. IsInCourses p c x × (x.room < length p.capacity)) (IsInRooms c (length p.capacity)) (λ x. (x.course < suc c) × (x.room < length p.capacity)) (rooms_known p c xs a) b
        (λ x h. (omega (arith, h.0.course), h.1)) (λ x h. (omega (arith, h.course), h.room))
        (λ x h. elim (cases_eq x.course c) [ inl same ↦ inr (record { course = same; room = h.1 }) | inr less ↦ inl (record { course = omega (arith, h.0) }, h.1) ])
        (λ x y h g. inl (omega (arith, h.0.course, g.course))) in
        record {
          each = λ i m. ((block.each i m).0, record { course = (block.each i m).1.0 });
          all = λ x is h. block.all x is (h.course, is.known_room);
          rising = block.rising;
        }

pub patterns_are : (p : Facts) → ArePatterns p (patterns_of p)
patterns_are p =
    let block = in_courses_are p (length p.students) (omega arith) in
    record { each = λ i l. (block.each i l).0; all = λ x is. block.all x is (record { course = is.known_course }); rising = block.rising }
