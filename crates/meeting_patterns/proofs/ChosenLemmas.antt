-- What a legal choice chooses: the patterns don't clash, and each event with a room stands in one of them.
use Rattle.std.proofs.Common.{ℕ, ◌≡◌, ◌≢◌, ◌+◌, ◌-◌, ◌<◌, inl, inr, Bool, true, false, not, ◌&&◌, refl, arith, ap, sym, ◌∙◌, List, length, get_or, subst}
use Rattle.std.specs.Prelude.{◌==◌, IsTrue}
use Rattle.std.proofs.lemmas.Bool.{cases_eq, cases_lt, cases_Bool, and_parts, and_from, and_left, and_right, or_cases, or_from, not-true, not-false, not_from_true, not_from_false, eq-eqb, eqb-true, ne_eqb, true≢false, false_from_ne_true}
use Rattle.numbers.specs.Below.{any_below, first_from, none_below, first_from_finds}
use Rattle.problem_core.specs.Facts.{Facts, suits, share_slot, course_of}
use Rattle.problem_core.specs.Choice.{entry, IsLegal}
use Rattle.problem_core.specs.Courses.{is_of_course, place_of, meetings_of, events_of, passing}
use Rattle.problem_core.specs.Below.{any_below_none, none_passes}
use Rattle.problem_core.specs.SharedSlots.{share_slot-sym}
use Rattle.meeting_patterns.specs.Pattern.{has_bit, within, IsPattern, IsBefore, ArePatterns, AreCoursesKnown, pattern_at, is_same, share_event, share_a_slot, clash, is_equal, agrees_at, chooses}
use Rattle.meeting_patterns.specs.Made.{AreClashless}
use Rattle.meeting_patterns.specs.declared.pattern.Pattern.{Pattern}
use Rattle.meeting_patterns.proofs.BitLemmas.{same_bits, mask_of, mask_small, mask_bits, some_bit}
use Rattle.problem_core.specs.Passing.{IsNth, nth_is, at_place}

equal_is : (a b : Bool) → is_equal a b ≡ true → a ≡ b
equal_is true true h = refl
equal_is true false h = absurd (true≢false (sym h))
equal_is false true h = absurd (true≢false (sym h))
equal_is false false h = refl

is_equal-same : (a b : Bool) → a ≡ b → is_equal a b ≡ true
is_equal-same true b h = rw (← h) refl
is_equal-same false b h = rw (← h) refl

pub agrees : (p : Facts) (a : List ℕ) (x : Pattern) (e : ℕ) → chooses p a x ≡ true → e < length p.events → is_of_course p x.course e ≡ true → has_bit x.mask (place_of p e) ≡ (entry a e == x.room + 1)
agrees p a x e h l of =
    let none = none_below (λ f. not (agrees_at p a x f)) e (length p.events) (not-true (any_below (λ f. not (agrees_at p a x f)) (length p.events)) h) l in
    elim (or_cases (not (is_of_course p x.course e)) (is_equal (has_bit x.mask (place_of p e)) (entry a e == x.room + 1)) (not-false (agrees_at p a x e) none)) [
      | inl differs ↦ absurd (true≢false (sym of ∙ not-true (is_of_course p x.course e) differs))
      | inr same ↦ equal_is (has_bit x.mask (place_of p e)) (entry a e == x.room + 1) same
    ]

pub chooses_from : (p : Facts) (a : List ℕ) (x : Pattern) → ((e : ℕ) → e < length p.events → is_of_course p x.course e ≡ true → has_bit x.mask (place_of p e) ≡ (entry a e == x.room + 1)) → chooses p a x ≡ true
chooses_from p a x h =
    not_from_false (any_below (λ e. not (agrees_at p a x e)) (length p.events)) (any_below_none (λ e. not (agrees_at p a x e)) (length p.events) (λ e l.
    not_from_true (agrees_at p a x e) (elim (cases_Bool (is_of_course p x.course e)) [
      | inl of ↦ rw of (is_equal-same (has_bit x.mask (place_of p e)) (entry a e == x.room + 1) (h e l of))
      | inr other ↦ rw other refl
    ])))

pub place_is : (p : Facts) (c j e : ℕ) → IsNth (is_of_course p c) (length p.events) j e → place_of p e ≡ j
place_is p c j e nth = ap (λ d. length (passing (is_of_course p d) e)) (eqb-true (course_of p e) c nth.passes) ∙ nth.place

same_mask : (p : Facts) (a : List ℕ) (x y : Pattern) → IsPattern p x → IsPattern p y → x.course ≡ y.course → x.room ≡ y.room → chooses p a x ≡ true → chooses p a y ≡ true → x.mask ≡ y.mask
same_mask p a x y is_x is_y course room cx cy =
    same_bits (meetings_of p x.course) x.mask y.mask is_x.of_course (rw course is_y.of_course) (λ j l.
    let e = get_or (events_of p x.course) j 0 in
    let nth = nth_is (is_of_course p x.course) (length p.events) j l in
    let at = place_is p x.course j e nth in
    ap (has_bit x.mask) (sym at)
    ∙ agrees p a x e cx nth.below nth.passes
    ∙ ap (λ r. entry a e == r + 1) room
    ∙ sym (agrees p a y e cy nth.below (ap (λ c. is_of_course p c e) (sym course) ∙ nth.passes))
    ∙ ap (has_bit y.mask) at)

pub same_pattern : (p : Facts) (a : List ℕ) (x y : Pattern) → IsPattern p x → IsPattern p y → x.course ≡ y.course → x.room ≡ y.room → chooses p a x ≡ true → chooses p a y ≡ true → is_same x y ≡ true
same_pattern p a x y is_x is_y course room cx cy =
    and_from ((x.course == y.course) && (x.room == y.room)) (x.mask == y.mask)
    (and_from (x.course == y.course) (x.room == y.room) (eq-eqb x.course y.course course) (eq-eqb x.room y.room room))
    (eq-eqb x.mask y.mask (same_mask p a x y is_x is_y course room cx cy))

pub record IsHeld (p : Facts) (a : List ℕ) (x : Pattern) (e : ℕ) : Type 0 where
  pub course : course_of p e ≡ x.course
  pub room : entry a e ≡ x.room + 1

pub held : (p : Facts) (a : List ℕ) (x : Pattern) (e : ℕ) → chooses p a x ≡ true → e < length p.events → within p x e ≡ true → IsHeld p a x e
held p a x e c l w =
    let parts = and_parts (is_of_course p x.course e) (has_bit x.mask (place_of p e)) w in
    record {
      course = eqb-true (course_of p e) x.course parts.0;
      room = eqb-true (entry a e) (x.room + 1) (sym (agrees p a x e c l parts.0) ∙ parts.1);
    }

no_pair : (f : ℕ → Bool) (g : ℕ → ℕ → Bool) (n : ℕ) → ((e h : ℕ) → e < n → h < n → f e ≡ true → g e h ≡ true → ⊥) → any_below (λ e. f e && any_below (g e) n) n ≡ false
no_pair f g n h = any_below_none (λ e. f e && any_below (g e) n) n (λ e l. elim (cases_Bool (f e)) [
  | inr no_f ↦ and_left (f e) (any_below (g e) n) no_f
  | inl yes_f ↦ and_right (f e) (any_below (g e) n) (any_below_none (g e) n (λ k m. false_from_ne_true (g e k) (h e k l m yes_f)))
])

-- two patterns of a choice that are not one have no event in common, and in one room neither a slot nor a course
pub apart : (p : Facts) (a : List ℕ) (x y : Pattern) → IsLegal p a → IsPattern p x → IsPattern p y → chooses p a x ≡ true → chooses p a y ≡ true → clash p x y ≡ false
apart p a x y legal is_x is_y cx cy = elim (cases_Bool (is_same x y)) [
  | inl same ↦ and_left (not (is_same x y)) _ (not_from_true (is_same x y) same)
  | inr differ ↦
      let never : x.course ≡ y.course → x.room ≡ y.room → ⊥ = λ course room. true≢false (sym (same_pattern p a x y is_x is_y course room cx cy) ∙ differ) in
      let no_event : share_event p x y ≡ false = any_below_none (λ e. within p x e && within p y e) (length p.events) (λ e l. false_from_ne_true (within p x e && within p y e) (λ both.
      let parts = and_parts (within p x e) (within p y e) both in
      let hx = held p a x e cx l parts.0 in
      let hy = held p a y e cy l parts.1 in
      never (sym hx.course ∙ hy.course) (omega (arith, hx.room, hy.room)))) in
      let no_slot : x.room ≡ y.room → share_a_slot p x y ≡ false = λ room. no_pair (within p x) (λ e f. within p y f && share_slot p e f) (length p.events) (λ e f l m wx both.
      let parts = and_parts (within p y f) (share_slot p e f) both in
      let hx = held p a x e cx l wx in
      let hy = held p a y f cy m parts.0 in
      one_slot p a x y e f legal l m hx hy room never parts.1) in
      and_right (not (is_same x y)) _ (or_from (share_event p x y) _ no_event (elim (cases_eq x.room y.room) [
        | inr other ↦ and_left (x.room == y.room) _ (ne_eqb x.room y.room other)
        | inl room ↦ and_right (x.room == y.room) _ (or_from (share_a_slot p x y) (x.course == y.course) (no_slot room) (ne_eqb x.course y.course (λ course. never course room)))
      ]))
]
  where
    one_slot : (p : Facts) (a : List ℕ) (x y : Pattern) (e f : ℕ) → IsLegal p a → e < length p.events → f < length p.events → IsHeld p a x e → IsHeld p a y f → x.room ≡ y.room
        → (x.course ≡ y.course → x.room ≡ y.room → ⊥) → share_slot p e f ≡ true → ⊥
    one_slot p a x y e f legal l m hx hy room never share = elim (cases_eq e f) [
      | inl same ↦ never (sym hx.course ∙ ap (course_of p) same ∙ hy.course) room
      | inr other ↦ elim (cases_lt e f) [
        | inl less ↦ true≢false (sym share ∙ legal.apart e f less (omega (arith, legal.one_each, m)) (λ z. absurd (omega (arith, hx.room, z))) (omega (arith, hx.room, hy.room, room)))
        | inr more ↦ true≢false (sym share ∙ share_slot-sym p e f ∙ legal.apart f e (omega arith) (omega (arith, legal.one_each, l)) (λ z. absurd (omega (arith, hy.room, z))) (omega (arith, hx.room, hy.room, room)))
      ]
    ]

-- ---- the pattern of an event with a room

nth : (p : Facts) (c j : ℕ) → ℕ
nth p c j = get_or (events_of p c) j 0

pub pattern_of : Facts → List ℕ → ℕ → Pattern
pattern_of p a e = record {
  course = course_of p e;
  room = entry a e - 1;
  mask = mask_of (λ j. entry a (nth p (course_of p e) j) == entry a e) (meetings_of p (course_of p e));
}

bit_is : (p : Facts) (a : List ℕ) (e f : ℕ) → f < length p.events → is_of_course p (course_of p e) f ≡ true
    → has_bit (mask_of (λ j. entry a (nth p (course_of p e) j) == entry a e) (meetings_of p (course_of p e))) (place_of p f) ≡ (entry a f == entry a e)
unfolding nth
bit_is p a e f l of =
    let c = course_of p e in
    let at = at_place (is_of_course p c) (length p.events) f l of in
    let place : place_of p f ≡ length (passing (is_of_course p c) f) = ap (λ d. length (passing (is_of_course p d) f)) (eqb-true (course_of p f) c of) in
    ap (has_bit _) place
    ∙ mask_bits (λ j. entry a (nth p c j) == entry a e) (meetings_of p c) (length (passing (is_of_course p c) f)) at.0
    ∙ ap (λ g. entry a g == entry a e) at.1

pub pattern_of-chosen : (p : Facts) (a : List ℕ) (e : ℕ) → e < length p.events → entry a e ≢ 0 → chooses p a (pattern_of p a e) ≡ true
unfolding pattern_of
pattern_of-chosen p a e l some =
    let back : entry a e - 1 + 1 ≡ entry a e = omega arith in
    chooses_from p a (pattern_of p a e) (λ f m of. bit_is p a e f m of ∙ ap (λ r. entry a f == r) (sym back))

pub pattern_of-within : (p : Facts) (a : List ℕ) (e : ℕ) → e < length p.events → within p (pattern_of p a e) e ≡ true
unfolding pattern_of
pattern_of-within p a e l =
    let of : is_of_course p (course_of p e) e ≡ true = eq-eqb (course_of p e) (course_of p e) refl in
    and_from (is_of_course p (course_of p e) e) _ of (bit_is p a e e l of ∙ eq-eqb (entry a e) (entry a e) refl)

pub pattern_of-is : (p : Facts) (a : List ℕ) (e : ℕ) → AreCoursesKnown p → IsLegal p a → e < length p.events → entry a e ≢ 0 → IsPattern p (pattern_of p a e)
unfolding pattern_of
pattern_of-is p a e courses legal l some =
    let c = course_of p e in
    let of : is_of_course p c e ≡ true = eq-eqb c c refl in
    record {
      known_course = courses.known e l;
      known_room = legal.known e (omega (arith, legal.one_each)) some;
      some = some_bit _ (place_of p e) (bit_is p a e e l of ∙ eq-eqb (entry a e) (entry a e) refl);
      of_course = mask_small (λ j. entry a (nth p c j) == entry a e) (meetings_of p c);
      suitable = λ f m w.
          let parts = and_parts (is_of_course p c f) _ w in
          let same : entry a f ≡ entry a e = eqb-true (entry a f) (entry a e) (sym (bit_is p a e f m parts.0) ∙ parts.1) in
          subst (λ x. IsTrue (suits p f (x - 1))) same (legal.suitable f (omega (arith, legal.one_each)) (λ z. some (sym same ∙ z)));
    }

-- ---- the one pattern of the list that holds an event

unfoldable pub holds_it : Facts → List Pattern → List ℕ → ℕ → ℕ → Bool
holds_it p s a e i = chooses p a (pattern_at s i) && within p (pattern_at s i) e

unfoldable pub holder : Facts → List Pattern → List ℕ → ℕ → ℕ
holder p s a e = first_from (holds_it p s a e) 0 (length s) - 1

pub before_differs : (x y : Pattern) → IsBefore x y → is_same x y ≡ false
before_differs x y (inl course) = and_left ((x.course == y.course) && (x.room == y.room)) (x.mask == y.mask) (and_left (x.course == y.course) (x.room == y.room) (ne_eqb x.course y.course (λ e. absurd (omega arith))))
before_differs x y (inr (same, inl room)) = and_left ((x.course == y.course) && (x.room == y.room)) (x.mask == y.mask) (and_right (x.course == y.course) (x.room == y.room) (ne_eqb x.room y.room (λ e. absurd (omega arith))))
before_differs x y (inr (same, inr (room, mask))) = and_right ((x.course == y.course) && (x.room == y.room)) (x.mask == y.mask) (ne_eqb x.mask y.mask (λ e. absurd (omega arith)))

-- two that hold one event are one
one_holder : (p : Facts) (s : List Pattern) (a : List ℕ) (e i j : ℕ) → ArePatterns p s → e < length p.events → i < j → j < length s → holds_it p s a e i ≡ true → holds_it p s a e j ≡ true → ⊥
unfolding holds_it
one_holder p s a e i j are l less m hi hj =
    let x = pattern_at s i in
    let y = pattern_at s j in
    let pi = and_parts (chooses p a x) (within p x e) hi in
    let pj = and_parts (chooses p a y) (within p y e) hj in
    let hx = held p a x e pi.0 l pi.1 in
    let hy = held p a y e pj.0 l pj.1 in
    true≢false (sym (same_pattern p a x y (are.each i (omega arith)) (are.each j m) (sym hx.course ∙ hy.course) (omega (arith, hx.room, hy.room)) pi.0 pj.0) ∙ before_differs x y (are.rising i j less m))

pub record IsHolder (p : Facts) (s : List Pattern) (a : List ℕ) (e : ℕ) : Type 0 where
  pub known : holder p s a e < length s
  pub holds : holds_it p s a e (holder p s a e) ≡ true

pub holder_is : (p : Facts) (s : List Pattern) (a : List ℕ) (e : ℕ) → AreCoursesKnown p → ArePatterns p s → IsLegal p a → e < length p.events → entry a e ≢ 0 → IsHolder p s a e
unfolding holder holds_it
holder_is p s a e courses are legal l some =
    let found = are.all (pattern_of p a e) (pattern_of-is p a e courses legal l some) in
    let here : holds_it p s a e found.0 ≡ true =
    and_from (chooses p a (pattern_at s found.0)) (within p (pattern_at s found.0) e)
    (ap (chooses p a) found.2 ∙ pattern_of-chosen p a e l some) (ap (λ x. within p x e) found.2 ∙ pattern_of-within p a e l) in
    let some_found : first_from (holds_it p s a e) 0 (length s) ≢ 0 = λ z. true≢false (sym here ∙ none_passes (holds_it p s a e) 0 (length s) found.0 z (omega arith) (omega (arith, found.1))) in
    let finds = first_from_finds (holds_it p s a e) 0 (length s) (first_from (holds_it p s a e) 0 (length s) - 1) (omega arith) in
    record { known = omega (arith, finds.1); holds = finds.0 }

pub one : (p : Facts) (s : List Pattern) (a : List ℕ) (i e : ℕ) → AreCoursesKnown p → ArePatterns p s → IsLegal p a → i < length s → e < length p.events
    → holds_it p s a e i ≡ (not (entry a e == 0) && (holder p s a e == i))
unfolding holds_it
one p s a i e courses are legal m l = elim (cases_Bool (holds_it p s a e i)) [
  | inl holding ↦
      let parts = and_parts (chooses p a (pattern_at s i)) (within p (pattern_at s i) e) holding in
      let h = held p a (pattern_at s i) e parts.0 l parts.1 in
      let some : entry a e ≢ 0 = λ z. absurd (omega (arith, h.room, z)) in
      let is = holder_is p s a e courses are legal l some in
      holding ∙ sym (and_from (not (entry a e == 0)) (holder p s a e == i) (not_from_false (entry a e == 0) (ne_eqb (entry a e) 0 some)) (eq-eqb (holder p s a e) i (elim (cases_eq (holder p s a e) i) [
        | inl same ↦ same
        | inr other ↦ elim (cases_lt (holder p s a e) i) [
          | inl less ↦ absurd (one_holder p s a e (holder p s a e) i are l less m is.holds holding)
          | inr more ↦ absurd (one_holder p s a e i (holder p s a e) are l (omega arith) is.known holding is.holds)
        ]
      ])))
  | inr missing ↦ missing ∙ sym (elim (cases_eq (entry a e) 0) [
    | inl none ↦ and_left (not (entry a e == 0)) (holder p s a e == i) (not_from_true (entry a e == 0) (eq-eqb (entry a e) 0 none))
    | inr some ↦
        let is = holder_is p s a e courses are legal l some in
        and_right (not (entry a e == 0)) (holder p s a e == i) (ne_eqb (holder p s a e) i (λ same. true≢false (sym (ap (holds_it p s a e) (sym same) ∙ is.holds) ∙ missing)))
  ])
]

-- what is chosen differs and doesn't clash
pub chosen_clashless : (p : Facts) (s : List Pattern) (a list : List ℕ) → ArePatterns p s → IsLegal p a → list ≡ passing (λ i. chooses p a (pattern_at s i)) (length s) → AreClashless p s list
chosen_clashless p s a list are legal same =
    let test = λ (i : ℕ). chooses p a (pattern_at s i) in
    let n = length s in
    let whole : length list ≡ length (passing test n) = ap length same in
    let nth : (j : ℕ) → j < length list → IsNth test n j (get_or list j 0) = λ j l. subst (λ xs. IsNth test n j (get_or xs j 0)) (sym same) (nth_is test n j (omega (arith, l, whole))) in
    record {
      known = λ j l. (nth j l).below;
      differ = λ j k l m one.
          let first = (nth j (omega (arith, l, m))).place in
          let second = (nth k m).place in
          let places : length (passing test (get_or list j 0)) ≡ length (passing test (get_or list k 0)) = ap (λ i. length (passing test i)) one in
          omega (arith, l, first, second, places);
      apart = λ j k l m.
          let first = nth j (omega (arith, l, m)) in
          let second = nth k m in
          apart p a (pattern_at s (get_or list j 0)) (pattern_at s (get_or list k 0)) legal (are.each (get_or list j 0) first.below) (are.each (get_or list k 0) second.below) first.passes second.passes;
    }
