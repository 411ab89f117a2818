-- Clashing is symmetric.
use Rattle.std.proofs.Common.{ℕ, ◌≡◌, inl, inr, Bool, true, false, not, ◌&&◌, ◌||◌, refl, ap, sym, List, [], ◌∷◌, length}
use Rattle.std.specs.Prelude.{◌==◌}
use Rattle.std.specs.List.{list_any}
use Rattle.std.proofs.lemmas.Bool.{and_parts, and_from, or_left, or_right, or_cases, eq-eqb, eqb-true, true≢false, false_from_ne_true, both_ways}
use Rattle.numbers.specs.Below.{any_below, any_below_at}
use Rattle.problem_core.specs.Facts.{Facts, takes_slot, share_slot, event_at}
use Rattle.meeting_patterns.specs.Pattern.{within, is_same, share_event, share_a_slot, clash}
use Rattle.meeting_patterns.specs.declared.pattern.Pattern.{Pattern}
use Rattle.packing_model.proofs.RowLemmas.{first_event, common}

pub some_slot : (test : ℕ → Bool) (ss : List ℕ) → list_any test ss ≡ true → (t : ℕ) × (list_any (λ s. s == t) ss ≡ true) × (test t ≡ true)
some_slot test [] h = absurd (true≢false (sym h))
some_slot test (s ∷ ss) h = elim (or_cases (test s) (list_any test ss) h) [
  | inl here ↦ (s, or_left (s == s) _ (eq-eqb s s refl), here)
  | inr later ↦ let rest = some_slot test ss later in (rest.0, or_right (s == rest.0) _ rest.1, rest.2)
]

slot_back : (p : Facts) (e f : ℕ) → share_slot p e f ≡ true → share_slot p f e ≡ true
slot_back p e f h =
    let t = some_slot (takes_slot p f) (event_at p e).takes h in
    common (event_at p f).takes (event_at p e).takes t.0 t.2 t.1

event_back : (p : Facts) (x y : Pattern) → share_event p x y ≡ true → share_event p y x ≡ true
event_back p x y h =
    let e = first_event (λ g. within p x g && within p y g) (length p.events) h in
    let both = and_parts (within p x e.0) (within p y e.0) e.2 in
    any_below_at (λ g. within p y g && within p x g) e.0 (length p.events) e.1 (and_from (within p y e.0) (within p x e.0) both.1 both.0)

slots_back : (p : Facts) (x y : Pattern) → share_a_slot p x y ≡ true → share_a_slot p y x ≡ true
slots_back p x y h =
    let e = first_event (λ g. within p x g && any_below (λ k. within p y k && share_slot p g k) (length p.events)) (length p.events) h in
    let a = and_parts (within p x e.0) (any_below (λ k. within p y k && share_slot p e.0 k) (length p.events)) e.2 in
    let f = first_event (λ k. within p y k && share_slot p e.0 k) (length p.events) a.1 in
    let b = and_parts (within p y f.0) (share_slot p e.0 f.0) f.2 in
    any_below_at (λ g. within p y g && any_below (λ k. within p x k && share_slot p g k) (length p.events)) f.0 (length p.events) f.1
    (and_from (within p y f.0) (any_below (λ k. within p x k && share_slot p f.0 k) (length p.events)) b.0
    (any_below_at (λ k. within p x k && share_slot p f.0 k) e.0 (length p.events) e.1
    (and_from (within p x e.0) (share_slot p f.0 e.0) a.0 (slot_back p e.0 f.0 b.1))))

eq_back : (a b : ℕ) → (a == b) ≡ true → (b == a) ≡ true
eq_back a b h = eq-eqb b a (sym (eqb-true a b h))

same_back : (x y : Pattern) → is_same x y ≡ true → is_same y x ≡ true
same_back x y h =
    let outer = and_parts ((x.course == y.course) && (x.room == y.room)) (x.mask == y.mask) h in
    let inner = and_parts (x.course == y.course) (x.room == y.room) outer.0 in
    and_from ((y.course == x.course) && (y.room == x.room)) (y.mask == x.mask)
    (and_from (y.course == x.course) (y.room == x.room) (eq_back x.course y.course inner.0) (eq_back x.room y.room inner.1)) (eq_back x.mask y.mask outer.1)

differ_back : (x y : Pattern) → not (is_same x y) ≡ true → not (is_same y x) ≡ true
differ_back x y h = go (is_same y x) refl
  where
    go : (b : Bool) → b ≡ is_same y x → not b ≡ true
    go false e = refl
    go true e = absurd (both_ways (not (is_same x y)) (ap not (same_back y x (sym e))) h)

pub clash_back : (p : Facts) (x y : Pattern) → clash p x y ≡ true → clash p y x ≡ true
clash_back p x y h =
    let outer = and_parts (not (is_same x y)) (share_event p x y || ((x.room == y.room) && (share_a_slot p x y || (x.course == y.course)))) h in
    and_from (not (is_same y x)) _ (differ_back x y outer.0)
    (elim (or_cases (share_event p x y) ((x.room == y.room) && (share_a_slot p x y || (x.course == y.course))) outer.1) [
      | inl event ↦ or_left (share_event p y x) _ (event_back p x y event)
      | inr room ↦
          let parts = and_parts (x.room == y.room) (share_a_slot p x y || (x.course == y.course)) room in
          or_right (share_event p y x) _ (and_from (y.room == x.room) (share_a_slot p y x || (y.course == x.course)) (eq_back x.room y.room parts.0)
          (elim (or_cases (share_a_slot p x y) (x.course == y.course) parts.1) [
            | inl slot ↦ or_left (share_a_slot p y x) _ (slots_back p x y slot)
            | inr course ↦ or_right (share_a_slot p y x) _ (eq_back x.course y.course course)
          ]))
    ])

pub apart_back : (p : Facts) (x y : Pattern) → clash p x y ≡ false → clash p y x ≡ false
apart_back p x y h = false_from_ne_true (clash p y x) (λ t. both_ways (clash p x y) h (clash_back p y x t))
