-- The weights of the chosen patterns sum to the measures of the choice.
use Rattle.std.proofs.Common.{ℕ, ◌≡◌, ◌≢◌, ◌-◌, ◌<◌, inl, inr, zero, suc, Bool, true, false, not, ◌&&◌, ◌||◌, refl, arith, ap, ap₂, sym, ◌∙◌, cond, List, length, get_or}
use Rattle.std.specs.Prelude.{ℤ, pos, negsuc, ◌+ℤ◌, ◌==◌}
use Rattle.std.proofs.lemmas.Int.{ints}
use Rattle.std.proofs.lemmas.Bool.{cases_eq, cases_Bool, cond-true, cond-false, and_parts, and_from, and_left, and_right, not_from_true, not_from_false, eq-eqb, ne_eqb, true≢false}
use Rattle.numbers.specs.Below.{any_below, any_below_at}
use Rattle.numbers.specs.Sums.{sum_below, picked, value, sum_below-same}
use Rattle.problem_core.specs.Facts.{Facts, course_of}
use Rattle.problem_core.specs.Choice.{entry, IsLegal}
use Rattle.problem_core.specs.Courses.{is_of_course, place_of, meetings_of, events_of}
use Rattle.problem_core.specs.Measures.{gain, gained, measure, meets_there, is_new_room}
use Rattle.meeting_patterns.specs.Pattern.{has_bit, within, IsPattern, ArePatterns, AreCoursesKnown, pattern_at, chooses, weight}
use Rattle.meeting_patterns.specs.declared.pattern.Pattern.{Pattern}
use Rattle.meeting_patterns.proofs.BitLemmas.{least_bit}
use Rattle.problem_core.specs.Passing.{nth_is}
use Rattle.meeting_patterns.proofs.ChosenLemmas.{IsHeld, held, agrees, holder, holds_it, holder_is, one, place_is}

-- the law that the sum over what is chosen is the sum over what is held
abbrev pub SumsByHolder : Type 0
SumsByHolder =
    (count events : ℕ) (chosen : ℕ → Bool) (within : ℕ → ℕ → Bool) (gain : ℕ → ℕ → ℤ) (has_room : ℕ → Bool) (holder : ℕ → ℕ)
    → ((e : ℕ) → e < events → has_room e ≡ true → holder e < count)
    → ((i e : ℕ) → i < count → e < events → (chosen i && within i e) ≡ (has_room e && (holder e == i)))
    → value chosen (λ i. sum_below (λ e. picked (within i e) (gain i e)) events) count ≡ sum_below (λ e. picked (has_room e) (gain (holder e) e)) events

has_entry : (x : ℕ) → not (x == 0) ≡ true → x ≢ 0
has_entry x h z = true≢false (sym h ∙ not_from_true (x == 0) (eq-eqb x 0 z))

known_holder : (p : Facts) (s : List Pattern) (a : List ℕ) (e : ℕ) → AreCoursesKnown p → ArePatterns p s → IsLegal p a → e < length p.events → not (entry a e == 0) ≡ true → holder p s a e < length s
known_holder p s a e courses are legal l h = (holder_is p s a e courses are legal l (has_entry (entry a e) h)).known

-- the room of the holder is the event's
gained_there : (p : Facts) (s : List Pattern) (a : List ℕ) (k e : ℕ) → (k == 5) ≡ false → AreCoursesKnown p → ArePatterns p s → IsLegal p a → e < length p.events
    → picked (not (entry a e == 0)) (gain p k e (pattern_at s (holder p s a e)).room) ≡ gained p k a e
unfolding holds_it
gained_there p s a k e other courses are legal l = elim (cases_eq (entry a e) 0) [
  | inl none ↦ rw (eq-eqb (entry a e) 0 none) refl
  | inr some ↦
      let is = holder_is p s a e courses are legal l some in
      let x = pattern_at s (holder p s a e) in
      let parts = and_parts (chooses p a x) (within p x e) (held_parts p s a e (holder p s a e) is.holds) in
      let h = held p a x e parts.0 l parts.1 in
      let room : x.room ≡ entry a e - 1 = omega (arith, h.room) in
      rw (ne_eqb (entry a e) 0 some, other) (ap (gain p k e) room)
]
  where
    held_parts : (p : Facts) (s : List Pattern) (a : List ℕ) (e i : ℕ) → holds_it p s a e i ≡ true → (chooses p a (pattern_at s i) && within p (pattern_at s i) e) ≡ true
    held_parts p s a e i h = h

pub measured_plain : SumsByHolder → (p : Facts) (s : List Pattern) (a : List ℕ) (k : ℕ) → (k == 5) ≡ false → AreCoursesKnown p → ArePatterns p s → IsLegal p a
    → value (λ i. chooses p a (pattern_at s i)) (λ i. weight p k (pattern_at s i)) (length s) ≡ measure p k a
unfolding holds_it
measured_plain law p s a k other courses are legal =
    sum_below-same (λ i. picked (chooses p a (pattern_at s i)) (weight p k (pattern_at s i)))
    (λ i. picked (chooses p a (pattern_at s i)) (sum_below (λ e. picked (within p (pattern_at s i) e) (gain p k e (pattern_at s i).room)) (length p.events))) (length s)
    (λ i l. ap (picked (chooses p a (pattern_at s i))) (cond-false (k == 5) (negsuc 0) (sum_below (λ e. picked (within p (pattern_at s i) e) (gain p k e (pattern_at s i).room)) (length p.events)) other))
    ∙ law (length s) (length p.events) (λ i. chooses p a (pattern_at s i)) (λ i. within p (pattern_at s i)) (λ i e. gain p k e (pattern_at s i).room) (λ e. not (entry a e == 0)) (holder p s a)
    (λ e l h. known_holder p s a e courses are legal l h) (λ i e m l. one p s a i e courses are legal m l)
    ∙ sum_below-same (λ e. picked (not (entry a e == 0)) (gain p k e (pattern_at s (holder p s a e)).room)) (gained p k a) (length p.events) (λ e l. gained_there p s a k e other courses are legal l)
    ∙ ap (sum_below (gained p k a)) (sym legal.one_each)

-- ---- course rooms: the least event of each pattern counts

least : (ℕ → Bool) → ℕ → Bool
least test e = test e && not (any_below test e)

least_sum : (test : ℕ → Bool) (x : ℤ) (n : ℕ) → sum_below (λ e. picked (least test e) x) n ≡ cond (any_below test n) x (pos 0)
unfolding least
least_sum test x zero = refl
least_sum test x (suc n) = elim (cases_Bool (any_below test n)) [
  | inl before ↦
      let rest : sum_below (λ e. picked (least test e) x) n ≡ x = least_sum test x n ∙ cond-true (any_below test n) x (pos 0) before in
      let here : least test n ≡ false = and_right (test n) (not (any_below test n)) (not_from_true (any_below test n) before) in
      rw (here, rest, before) (done x (test n))
  | inr none ↦
      let rest : sum_below (λ e. picked (least test e) x) n ≡ pos 0 = least_sum test x n ∙ cond-false (any_below test n) x (pos 0) none in
      elim (cases_Bool (test n)) [
        | inl hit ↦ let here : least test n ≡ true = and_from (test n) (not (any_below test n)) hit (not_from_false (any_below test n) none) in rw (here, rest, hit) (omega (arith, ints))
        | inr miss ↦ let here : least test n ≡ false = and_left (test n) (not (any_below test n)) miss in rw (here, rest, miss, none) refl
      ]
]
  where
    done : (x : ℤ) (b : Bool) → (x +ℤ pos 0) ≡ cond (b || true) x (pos 0)
    done x true = omega (arith, ints)
    done x false = omega (arith, ints)

pub some_event : (p : Facts) (x : Pattern) → IsPattern p x → any_below (within p x) (length p.events) ≡ true
some_event p x is =
    let bit = least_bit (meetings_of p x.course) x.mask is.some is.of_course in
    let e = get_or (events_of p x.course) bit.0 0 in
    let nth = nth_is (is_of_course p x.course) (length p.events) bit.0 bit.1 in
    any_below_at (within p x) e (length p.events) nth.below
    (and_from (is_of_course p x.course e) (has_bit x.mask (place_of p e)) nth.passes (ap (has_bit x.mask) (place_is p x.course bit.0 e nth) ∙ bit.2))

any_same : (f g : ℕ → Bool) (n : ℕ) → ((k : ℕ) → k < n → f k ≡ g k) → any_below f n ≡ any_below g n
any_same f g zero h = refl
any_same f g (suc n) h = ap₂ (λ x y. x || y) (h n (omega arith)) (any_same f g n (λ k l. h k (omega arith)))

-- for a chosen pattern, "an earlier event of it" is "an earlier event of the course in the room"
earlier_same : (p : Facts) (a : List ℕ) (x : Pattern) (e : ℕ) → chooses p a x ≡ true → e < length p.events → within p x e ≡ true → any_below (within p x) e ≡ any_below (meets_there p a (course_of p e) (entry a e)) e
earlier_same p a x e c l w =
    let h = held p a x e c l w in
    any_same (within p x) (meets_there p a (course_of p e) (entry a e)) e (λ f m. there p a x e f c (omega arith) h)
  where
    there : (p : Facts) (a : List ℕ) (x : Pattern) (e f : ℕ) → chooses p a x ≡ true → f < length p.events → IsHeld p a x e → within p x f ≡ meets_there p a (course_of p e) (entry a e) f
    there p a x e f c l h = elim (cases_Bool (is_of_course p x.course f)) [
      | inl of ↦ rw (h.course, h.room, of) (agrees p a x f c l of)
      | inr other ↦ rw (h.course, h.room, other) refl
    ]

one_least : (p : Facts) (s : List Pattern) (a : List ℕ) (i e : ℕ) → AreCoursesKnown p → ArePatterns p s → IsLegal p a → i < length s → e < length p.events
    → (chooses p a (pattern_at s i) && least (within p (pattern_at s i)) e) ≡ ((not (entry a e == 0) && is_new_room p a e) && (holder p s a e == i))
unfolding least holds_it
one_least p s a i e courses are legal m l =
    let x = pattern_at s i in
    let law = one p s a i e courses are legal m l in
    elim (cases_Bool (chooses p a x && within p x e)) [
      | inl holding ↦
          let parts = and_parts (chooses p a x) (within p x e) holding in
          let both = and_parts (not (entry a e == 0)) (holder p s a e == i) (sym law ∙ holding) in
          rw (parts.0, parts.1, both.0, both.1, earlier_same p a x e parts.0 l parts.1) (sym (and_true (is_new_room p a e)))
      | inr missing ↦
          regroup (chooses p a x) (within p x e) (not (any_below (within p x) e)) missing
          ∙ sym (regroup_right (not (entry a e == 0)) (is_new_room p a e) (holder p s a e == i) (sym law ∙ missing))
    ]
  where
    and_true : (b : Bool) → (b && true) ≡ b
    and_true true = refl
    and_true false = refl

    regroup : (a b c : Bool) → (a && b) ≡ false → (a && (b && c)) ≡ false
    regroup true true c h = absurd (true≢false h)
    regroup true false c h = refl
    regroup false b c h = refl

    regroup_right : (a b c : Bool) → (a && c) ≡ false → ((a && b) && c) ≡ false
    regroup_right true true c h = h
    regroup_right true false c h = refl
    regroup_right false b c h = refl

pub measured_rooms : SumsByHolder → (p : Facts) (s : List Pattern) (a : List ℕ) → AreCoursesKnown p → ArePatterns p s → IsLegal p a
    → value (λ i. chooses p a (pattern_at s i)) (λ i. negsuc 0) (length s) ≡ measure p 5 a
measured_rooms law p s a courses are legal =
    sum_below-same (λ i. picked (chooses p a (pattern_at s i)) (negsuc 0)) (λ i. picked (chooses p a (pattern_at s i)) (sum_below (λ e. picked (least (within p (pattern_at s i)) e) (negsuc 0)) (length p.events))) (length s)
    (λ i l. ap (picked (chooses p a (pattern_at s i))) (sym (least_sum (within p (pattern_at s i)) (negsuc 0) (length p.events) ∙ cond-true (any_below (within p (pattern_at s i)) (length p.events)) (negsuc 0) (pos 0) (some_event p (pattern_at s i) (are.each i l)))))
    ∙ law (length s) (length p.events) (λ i. chooses p a (pattern_at s i)) (λ i. least (within p (pattern_at s i))) (λ i e. negsuc 0) (λ e. not (entry a e == 0) && is_new_room p a e) (holder p s a)
    (λ e l h. known_holder p s a e courses are legal l (and_parts (not (entry a e == 0)) (is_new_room p a e) h).0) (λ i e m l. one_least p s a i e courses are legal m l)
    ∙ sum_below-same (λ e. picked (not (entry a e == 0) && is_new_room p a e) (negsuc 0)) (gained p 5 a) (length p.events) (λ e l. counted (entry a e == 0) (is_new_room p a e))
    ∙ ap (sum_below (gained p 5 a)) (sym legal.one_each)
  where
    counted : (none is_new : Bool) → picked (not none && is_new) (negsuc 0) ≡ cond none (pos 0) (cond is_new (negsuc 0) (pos 0))
    counted true b = refl
    counted false true = refl
    counted false false = refl

pub measured : SumsByHolder → (p : Facts) (s : List Pattern) (a : List ℕ) → AreCoursesKnown p → ArePatterns p s → IsLegal p a → (k : ℕ)
    → value (λ i. chooses p a (pattern_at s i)) (λ i. weight p k (pattern_at s i)) (length s) ≡ measure p k a
measured law p s a courses are legal k = elim (cases_eq k 5) [
  | inl five ↦ rw five (measured_rooms law p s a courses are legal)
  | inr other ↦ measured_plain law p s a k (ne_eqb k 5 other) courses are legal
]
