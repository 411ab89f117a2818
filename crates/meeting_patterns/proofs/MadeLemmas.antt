-- The choice that a list of patterns makes is legal, and chooses the list's patterns.
use Rattle.std.proofs.Common.{ℕ, ◌≡◌, ◌≢◌, ◌+◌, ◌-◌, ◌<◌, ◌≤◌, inl, inr, zero, suc, Bool, true, false, not, ◌&&◌, ◌||◌, refl, arith, ap, sym, ◌∙◌, cond, List, [], ◌∷◌, length, get_or, drop, subst}
use Rattle.std.specs.Prelude.{◌==◌, IsTrue}
use Rattle.std.proofs.lemmas.Bool.{cases_eq, cases_lt, cases_Bool, cond-true, cond-false, and_parts, and_cases, and_from, or_parts, not-false, eq-eqb, eqb-true, ne_eqb, true≢false, false_from_ne_true, or_left, or_right}
use Rattle.numbers.specs.Below.{any_below, any_below_at}
use Rattle.numbers.specs.Sums.{member}
use Rattle.problem_core.specs.Facts.{Facts, suits, share_slot, course_of}
use Rattle.problem_core.specs.Choice.{entry, IsLegal}
use Rattle.std.specs.List.{list_any}
use Rattle.std.proofs.lemmas.List.{drop_more}
use Rattle.problem_core.specs.Below.{any_below_none}
use Rattle.problem_core.specs.Passing.{any_passing}
use Rattle.problem_core.specs.Courses.{is_of_course, place_of, events_of}
use Rattle.problem_core.specs.Valid.{IsProblem}
use Rattle.problem_core.specs.SharedSlots.{share_slot-sym}
use Rattle.meeting_patterns.specs.Pattern.{has_bit, within, ArePatterns, AreCoursesKnown, pattern_at, is_same, share_event, share_a_slot, clash, chooses}
use Rattle.problem_core.specs.Courses.{passing}
use Rattle.problem_core.specs.Passing.{IsNth, nth_is, at_place}
use Rattle.meeting_patterns.proofs.ChosenLemmas.{holds_it, holder, holder_is, IsHolder}
use Rattle.meeting_patterns.specs.Made.{made, IsMade, AreClashless}
use Rattle.meeting_patterns.specs.declared.pattern.Pattern.{Pattern}
use Rattle.meeting_patterns.proofs.ChosenLemmas.{held, chooses_from, same_pattern, before_differs}
use Rattle.meeting_patterns.proofs.SumLemmas.{some_event}

record IsMadeBy (p : Facts) (s : List Pattern) (list : List ℕ) (e j : ℕ) : Type 0 where
  there : j < length list
  holds : within p (pattern_at s (get_or list j 0)) e ≡ true
  room : made p s list e ≡ (pattern_at s (get_or list j 0)).room + 1

made_by : (p : Facts) (s : List Pattern) (list : List ℕ) (e : ℕ) → made p s list e ≢ 0 → (j : ℕ) × IsMadeBy p s list e j
made_by p s [] e some = absurd (some refl)
made_by p s (i ∷ list) e some = elim (cases_Bool (within p (pattern_at s i) e)) [
  | inl holds ↦ (0, record { there = omega arith; holds = holds; room = cond-true (within p (pattern_at s i) e) ((pattern_at s i).room + 1) (made p s list e) holds })
  | inr other ↦
      let same : made p s (i ∷ list) e ≡ made p s list e = cond-false (within p (pattern_at s i) e) ((pattern_at s i).room + 1) (made p s list e) other in
      let rest = made_by p s list e (λ z. some (same ∙ z)) in
      (suc rest.0, record { there = omega (arith, rest.1.there); holds = rest.1.holds; room = same ∙ rest.1.room })
]

made_none : (p : Facts) (s : List Pattern) (list : List ℕ) (e j : ℕ) → j < length list → within p (pattern_at s (get_or list j 0)) e ≡ true → made p s list e ≢ 0
made_none p s [] e j l h z = absurd (omega arith)
made_none p s (i ∷ list) e zero l h z =
    let here = cond-true (within p (pattern_at s i) e) ((pattern_at s i).room + 1) (made p s list e) h in absurd (omega (arith, here, z))
made_none p s (i ∷ list) e (suc k) l h z = elim (cases_Bool (within p (pattern_at s i) e)) [
  | inl holds ↦ let here = cond-true (within p (pattern_at s i) e) ((pattern_at s i).room + 1) (made p s list e) holds in absurd (omega (arith, here, z))
  | inr other ↦
      let same = cond-false (within p (pattern_at s i) e) ((pattern_at s i).room + 1) (made p s list e) other in
      made_none p s list e k (omega arith) h (sym same ∙ z)
]

-- what two patterns of the list that differ don't share
record AreTwo (p : Facts) (x y : Pattern) : Type 0 where
  event : share_event p x y ≡ false
  slot : x.room ≡ y.room → share_a_slot p x y ≡ false
  course : x.room ≡ y.room → x.course ≡ y.course → ⊥

two_from : (p : Facts) (x y : Pattern) → clash p x y ≡ false → is_same x y ≡ false → AreTwo p x y
two_from p x y h differ = elim (and_cases (not (is_same x y)) (share_event p x y || ((x.room == y.room) && (share_a_slot p x y || (x.course == y.course)))) h) [
  | inl same ↦ absurd (true≢false (sym (not-false (is_same x y) same) ∙ differ))
  | inr rest ↦
      let parts = or_parts (share_event p x y) ((x.room == y.room) && (share_a_slot p x y || (x.course == y.course))) rest in
      let inner : x.room ≡ y.room → (share_a_slot p x y || (x.course == y.course)) ≡ false = λ room. elim (and_cases (x.room == y.room) (share_a_slot p x y || (x.course == y.course)) parts.1) [
        | inl other ↦ absurd (true≢false (sym (eq-eqb x.room y.room room) ∙ other))
        | inr none ↦ none
      ] in
      record {
        event = parts.0;
        slot = λ room. (or_parts (share_a_slot p x y) (x.course == y.course) (inner room)).0;
        course = λ room course. true≢false (sym (eq-eqb x.course y.course course) ∙ (or_parts (share_a_slot p x y) (x.course == y.course) (inner room)).1);
      }
]

unfoldable pub at_list : List Pattern → List ℕ → ℕ → Pattern
at_list s list j = pattern_at s (get_or list j 0)

not_same : (p : Facts) (s : List Pattern) (m n : ℕ) → ArePatterns p s → m < length s → n < length s → m ≢ n → is_same (pattern_at s m) (pattern_at s n) ≡ false
not_same p s m n are k l differ = elim (cases_lt m n) [
  | inl less ↦ before_differs (pattern_at s m) (pattern_at s n) (are.rising m n less l)
  | inr more ↦ false_from_ne_true (is_same (pattern_at s m) (pattern_at s n)) (λ same. true≢false (sym (flip (pattern_at s m) (pattern_at s n) same) ∙ before_differs (pattern_at s n) (pattern_at s m) (are.rising n m (omega arith) k)))
]
  where
    flip : (x y : Pattern) → is_same x y ≡ true → is_same y x ≡ true
    flip x y h =
        let one = and_parts ((x.course == y.course) && (x.room == y.room)) (x.mask == y.mask) h in
        let two = and_parts (x.course == y.course) (x.room == y.room) one.0 in
        and_from ((y.course == x.course) && (y.room == x.room)) (y.mask == x.mask)
        (and_from (y.course == x.course) (y.room == x.room) (eq-eqb y.course x.course (sym (eqb-true x.course y.course two.0))) (eq-eqb y.room x.room (sym (eqb-true x.room y.room two.1))))
        (eq-eqb y.mask x.mask (sym (eqb-true x.mask y.mask one.1)))

two_at : (p : Facts) (s : List Pattern) (list : List ℕ) (j k : ℕ) → ArePatterns p s → AreClashless p s list → j < k → k < length list → AreTwo p (at_list s list j) (at_list s list k)
unfolding at_list
two_at p s list j k are free less l =
    two_from p (pattern_at s (get_or list j 0)) (pattern_at s (get_or list k 0)) (free.apart j k less l) (not_same p s (get_or list j 0) (get_or list k 0) are (free.known j (omega arith)) (free.known k l) (free.differ j k less l))

-- one event is in one pattern of the list alone
pub only_one : (p : Facts) (s : List Pattern) (list : List ℕ) (e j k : ℕ) → ArePatterns p s → AreClashless p s list → e < length p.events → j < length list → k < length list
    → within p (at_list s list j) e ≡ true → within p (at_list s list k) e ≡ true → j ≡ k
only_one p s list e j k are free l jl kl hj hk = elim (cases_eq j k) [
  | inl same ↦ same
  | inr other ↦ elim (cases_lt j k) [
    | inl less ↦ absurd (true≢false (sym (any_below_at (λ f. within p (at_list s list j) f && within p (at_list s list k) f) e (length p.events) l (and_from (within p (at_list s list j) e) (within p (at_list s list k) e) hj hk)) ∙ (two_at p s list j k are free less kl).event))
    | inr more ↦ absurd (true≢false (sym (any_below_at (λ f. within p (at_list s list k) f && within p (at_list s list j) f) e (length p.events) l (and_from (within p (at_list s list k) e) (within p (at_list s list j) e) hk hj)) ∙ (two_at p s list k j are free (omega arith) jl).event))
  ]
]

-- two patterns of the list in one room and of one course are one
one_room : (p : Facts) (s : List Pattern) (list : List ℕ) (j k : ℕ) → ArePatterns p s → AreClashless p s list → j < length list → k < length list
    → (at_list s list j).room ≡ (at_list s list k).room → (at_list s list j).course ≡ (at_list s list k).course → j ≡ k
one_room p s list j k are free jl kl room course = elim (cases_eq j k) [
  | inl same ↦ same
  | inr other ↦ elim (cases_lt j k) [
    | inl less ↦ absurd ((two_at p s list j k are free less kl).course room course)
    | inr more ↦ absurd ((two_at p s list k j are free (omega arith) jl).course (sym room) (sym course))
  ]
]

no_common : (p : Facts) (x y : Pattern) (e f : ℕ) → share_a_slot p x y ≡ false → e < length p.events → f < length p.events → within p x e ≡ true → within p y f ≡ true → share_slot p e f ≡ false
no_common p x y e f none l m hx hy =
    false_from_ne_true (share_slot p e f) (λ share. true≢false (sym (
    any_below_at (λ g. within p x g && any_below (λ h. within p y h && share_slot p g h) (length p.events)) e (length p.events) l
    (and_from (within p x e) _ hx (any_below_at (λ h. within p y h && share_slot p e h) f (length p.events) m (and_from (within p y f) (share_slot p e f) hy share)))) ∙ none))

course_in : (p : Facts) (x : Pattern) (e : ℕ) → within p x e ≡ true → course_of p e ≡ x.course
course_in p x e h = eqb-true (course_of p e) x.course (and_parts (is_of_course p x.course e) (has_bit x.mask (place_of p e)) h).0

pub made_legal : (p : Facts) (s : List Pattern) (list a : List ℕ) → IsProblem p → ArePatterns p s → AreClashless p s list → IsMade p s list a → IsLegal p a
unfolding at_list
made_legal p s list a problem are free is =
    let by : (e : ℕ) → e < length a → entry a e ≢ 0 → (j : ℕ) × IsMadeBy p s list e j = λ e l some. made_by p s list e (λ z. some (is.entries e (omega (arith, is.one_each)) ∙ z)) in
    record {
      one_each = is.one_each;
      known = λ e l some.
          let b = by e l some in
          omega (arith, is.entries e (omega (arith, is.one_each)), b.1.room, (are.each (get_or list b.0 0) (free.known b.0 b.1.there)).known_room);
      suitable = λ e l some.
          let b = by e l some in
          let room : (pattern_at s (get_or list b.0 0)).room ≡ entry a e - 1 = omega (arith, is.entries e (omega (arith, is.one_each)), b.1.room) in
          subst (λ r. IsTrue (suits p e r)) room ((are.each (get_or list b.0 0) (free.known b.0 b.1.there)).suitable e (omega (arith, is.one_each)) b.1.holds);
      apart = λ e f less m some same.
          let el : e < length p.events = omega (arith, is.one_each) in
          let fl : f < length p.events = omega (arith, is.one_each) in
          let b = by e (omega arith) some in
          let d = by f m (λ z. some (same ∙ z)) in
          let room : (at_list s list b.0).room ≡ (at_list s list d.0).room = omega (arith, is.entries e el, is.entries f fl, b.1.room, d.1.room, same) in
          elim (cases_eq b.0 d.0) [
            | inl one ↦ problem.apart e f less fl (course_in p (at_list s list b.0) e b.1.holds ∙ ap (λ j. (at_list s list j).course) one ∙ sym (course_in p (at_list s list d.0) f d.1.holds))
            | inr other ↦ elim (cases_lt b.0 d.0) [
              | inl before ↦ no_common p (at_list s list b.0) (at_list s list d.0) e f ((two_at p s list b.0 d.0 are free before d.1.there).slot room) el fl b.1.holds d.1.holds
              | inr after ↦ share_slot-sym p e f ∙ no_common p (at_list s list d.0) (at_list s list b.0) f e ((two_at p s list d.0 b.0 are free (omega arith) b.1.there).slot (sym room)) fl el d.1.holds b.1.holds
            ]
          ];
    }

chooses_at : (p : Facts) (s : List Pattern) (list a : List ℕ) (j : ℕ) → ArePatterns p s → AreClashless p s list → IsMade p s list a → j < length list → chooses p a (at_list s list j) ≡ true
unfolding at_list
chooses_at p s list a j are free is l =
    let x = at_list s list j in
    chooses_from p a x (λ e el of. elim (cases_Bool (has_bit x.mask (place_of p e))) [
      | inl bit ↦
          let holds : within p x e ≡ true = and_from (is_of_course p x.course e) (has_bit x.mask (place_of p e)) of bit in
          let b = made_by p s list e (made_none p s list e j l holds) in
          let one = only_one p s list e j b.0 are free el l b.1.there holds b.1.holds in
          bit ∙ sym (eq-eqb (entry a e) (x.room + 1) (is.entries e el ∙ b.1.room ∙ ap (λ k. (at_list s list k).room + 1) (sym one)))
      | inr none ↦ none ∙ sym (ne_eqb (entry a e) (x.room + 1) (λ same.
          let b = made_by p s list e (λ z. absurd (omega (arith, is.entries e el, same, z))) in
          let room : x.room ≡ (at_list s list b.0).room = omega (arith, is.entries e el, same, b.1.room) in
          let course : x.course ≡ (at_list s list b.0).course = sym (eqb-true (course_of p e) x.course of) ∙ course_in p (at_list s list b.0) e b.1.holds in
          let one = one_room p s list j b.0 are free l b.1.there room course in
          let bits = and_parts (is_of_course p (at_list s list b.0).course e) (has_bit (at_list s list b.0).mask (place_of p e)) b.1.holds in
          true≢false (sym bits.1 ∙ ap (λ k. has_bit (at_list s list k).mask (place_of p e)) (sym one) ∙ none)))
    ])

pub member_at : (i : ℕ) (list : List ℕ) → member i list ≡ true → (j : ℕ) × (j < length list) × (get_or list j 0 ≡ i)
member_at i [] h = absurd (true≢false (sym h))
member_at i (q ∷ qs) h = elim (cases_eq q i) [
  | inl same ↦ (0, omega arith, same)
  | inr other ↦
      let rest = member_at i qs (sym (ap (λ b. b || member i qs) (ne_eqb q i other)) ∙ h) in
      (suc rest.0, omega (arith, rest.1), rest.2)
]

at_member : (i : ℕ) (list : List ℕ) (j : ℕ) → j < length list → get_or list j 0 ≡ i → member i list ≡ true
at_member i [] j l h = absurd (omega arith)
at_member i (q ∷ qs) zero l h = or_left (q == i) (member i qs) (eq-eqb q i h)
at_member i (q ∷ qs) (suc j) l h = or_right (q == i) (member i qs) (at_member i qs j (omega arith) h)

pub first_event : (test : ℕ → Bool) (n : ℕ) → any_below test n ≡ true → (e : ℕ) × (e < n) × (test e ≡ true)
first_event test zero h = absurd (true≢false (sym h))
first_event test (suc n) h = elim (cases_Bool (test n)) [
  | inl hit ↦ (n, omega arith, hit)
  | inr miss ↦ let rest = first_event test n (sym (ap (λ b. b || any_below test n) miss) ∙ h) in (rest.0, omega (arith, rest.1), rest.2)
]

pub made_chooses : (p : Facts) (s : List Pattern) (list a : List ℕ) → ArePatterns p s → AreClashless p s list → IsMade p s list a → (i : ℕ) → i < length s → chooses p a (pattern_at s i) ≡ member i list
unfolding at_list
made_chooses p s list a are free is i l = elim (cases_Bool (member i list)) [
  | inl in_list ↦
      let at = member_at i list in_list in
      ap (λ m. chooses p a (pattern_at s m)) (sym at.2) ∙ chooses_at p s list a at.0 are free is at.1 ∙ sym in_list
  | inr missing ↦ false_from_ne_true (chooses p a (pattern_at s i)) (λ c.
      let x = pattern_at s i in
      let e = first_event (within p x) (length p.events) (some_event p x (are.each i l)) in
      let h = held p a x e.0 c e.1 e.2 in
      let b = made_by p s list e.0 (λ z. absurd (omega (arith, is.entries e.0 e.1, h.room, z))) in
      let y = at_list s list b.0 in
      let room : x.room ≡ y.room = omega (arith, is.entries e.0 e.1, h.room, b.1.room) in
      let course : x.course ≡ y.course = sym h.course ∙ course_in p y e.0 b.1.holds in
      let same = same_pattern p a x y (are.each i l) (are.each (get_or list b.0 0) (free.known b.0 b.1.there)) course room c (chooses_at p s list a b.0 are free is b.1.there) in
      true≢false (sym same ∙ not_same p s i (get_or list b.0 0) are l (free.known b.0 b.1.there) (λ z. true≢false (sym (at_member i list b.0 b.1.there (sym z)) ∙ missing)))) ∙ sym missing
]

-- ---- the entries as they are written, from the last pattern to the first

any_single : (t b : ℕ → Bool) (e n : ℕ) → e < n → any_below (λ f. t f && ((f == e) && b f)) n ≡ (t e && b e)
any_single t b e n l = elim (cases_Bool (t e && b e)) [
  | inl both ↦
      let parts = and_parts (t e) (b e) both in
      any_below_at (λ f. t f && ((f == e) && b f)) e n l (and_from (t e) ((e == e) && b e) parts.0 (and_from (e == e) (b e) (eq-eqb e e refl) parts.1)) ∙ sym both
  | inr none ↦ any_below_none (λ f. t f && ((f == e) && b f)) n (λ f m. elim (cases_eq f e) [
    | inl same ↦ rw (same, eq-eqb e e refl) none
    | inr other ↦ rw (ne_eqb f e other) (off (t f))
  ]) ∙ sym none
]
  where
    off : (a : Bool) → (a && false) ≡ false
    off true = refl
    off false = refl

pub made_step : (p : Facts) (s : List Pattern) (list events : List ℕ) (x : Pattern) (left e old new : ℕ) → 0 < left → left ≤ length list → e < length p.events → x ≡ pattern_at s (get_or list (left - 1) 0)
    → events ≡ events_of p x.course → new ≡ cond (list_any (λ f. (f == e) && has_bit x.mask (place_of p f)) events) (x.room + 1) old → old ≡ made p s (drop left list) e
    → new ≡ made p s (drop (left - 1) list) e
made_step p s list events x left e old new some l el is same h so =
    let back : left - 1 + 1 ≡ left = omega arith in
    let front : drop (left - 1) list ≡ get_or list (left - 1) 0 ∷ drop left list = drop_more list (left - 1) 0 (omega arith) ∙ ap (λ (n : ℕ). get_or list (left - 1) 0 ∷ drop n list) back in
    let tells : list_any (λ f. (f == e) && has_bit x.mask (place_of p f)) events ≡ within p x e =
    ap (list_any (λ f. (f == e) && has_bit x.mask (place_of p f))) same
    ∙ any_passing (is_of_course p x.course) (λ f. (f == e) && has_bit x.mask (place_of p f)) (length p.events)
    ∙ any_single (is_of_course p x.course) (λ f. has_bit x.mask (place_of p f)) e (length p.events) el in
    h
    ∙ ap (λ b. cond b (x.room + 1) old) tells
    ∙ ap (λ (y : ℕ). cond (within p x e) (x.room + 1) y) so
    ∙ ap (λ (y : Pattern). cond (within p y e) (y.room + 1) (made p s (drop left list) e)) is
    ∙ ap (λ (ys : List ℕ). made p s ys e) (sym front)

-- ---- what a legal choice chooses makes the choice again

pub made_again : (p : Facts) (s : List Pattern) (a list m : List ℕ) → AreCoursesKnown p → ArePatterns p s → IsLegal p a → list ≡ passing (λ i. chooses p a (pattern_at s i)) (length s) → IsMade p s list m
    → (e : ℕ) → e < length p.events → entry m e ≡ entry a e
unfolding holds_it
made_again p s a list m courses are legal same is e l =
    let test = λ (i : ℕ). chooses p a (pattern_at s i) in
    let n = length s in
    let whole : length list ≡ length (passing test n) = ap length same in
    is.entries e l ∙ elim (cases_eq (made p s list e) 0) [
      | inr some ↦
          let by = made_by p s list e some in
          let nth : IsNth test n by.0 (get_or list by.0 0) = subst (λ xs. IsNth test n by.0 (get_or xs by.0 0)) (sym same) (nth_is test n by.0 (omega (arith, by.1.there, whole))) in
          let h = held p a (pattern_at s (get_or list by.0 0)) e nth.passes l by.1.holds in
          by.1.room ∙ sym h.room
      | inl none ↦ elim (cases_eq (entry a e) 0) [
        | inl empty ↦ none ∙ sym empty
        | inr some ↦
            let h = holder_is p s a e courses are legal l some in
            let parts = and_parts (chooses p a (pattern_at s (holder p s a e))) (within p (pattern_at s (holder p s a e)) e) h.holds in
            let there = at_place test n (holder p s a e) h.known parts.0 in
            let j = length (passing test (holder p s a e)) in
            let at_j : get_or list j 0 ≡ holder p s a e = ap (λ xs. get_or xs j 0) same ∙ there.1 in
            absurd (made_none p s list e j (omega (arith, there.0, whole)) (ap (λ i. within p (pattern_at s i) e) at_j ∙ parts.1) none)
      ]
    ]
