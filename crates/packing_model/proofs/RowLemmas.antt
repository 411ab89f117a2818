-- Two patterns of a base row clash.
use Rattle.std.proofs.Common.{ℕ, ◌≡◌, ◌≢◌, ◌<◌, inl, inr, zero, suc, Bool, true, false, not, ◌&&◌, ◌||◌, arith, ap, sym, ◌∙◌, List, [], ◌∷◌, length}
use Rattle.std.specs.Prelude.{◌==◌, nat_lt}
use Rattle.std.specs.List.{list_any}
use Rattle.std.proofs.lemmas.Bool.{ltb-true, cases_eq, cases_lt, cases_Bool, and_parts, and_from, or_left, or_right, not_from_false, eq-eqb, eqb-true, ne_eqb, true≢false, and_left, and_right}
use Rattle.numbers.specs.Below.{any_below, any_below_at}
use Rattle.problem_core.specs.Facts.{Facts, takes_slot, share_slot, event_at}
use Rattle.meeting_patterns.specs.Pattern.{within, IsBefore, ArePatterns, pattern_at, is_same, share_event, share_a_slot, clash}
use Rattle.meeting_patterns.specs.declared.pattern.Pattern.{Pattern}
use Rattle.packing_model.specs.Rows.{takes, stands_in}
use Rattle.packing_model.specs.declared.row.Row.{Row}
use Rattle.packing_model.specs.declared.row.Row.TheVariants.{Event, RoomSlot, CourseRoom, Cut, Level}

before_differs : (x y : Pattern) → IsBefore x y → is_same x y ≡ false
before_differs x y (inl course) = and_left ((x.course == y.course) && (x.room == y.room)) (x.mask == y.mask) (and_left (x.course == y.course) (x.room == y.room) (ne_eqb x.course y.course (λ e. absurd (omega arith))))
before_differs x y (inr (same, inl room)) = and_left ((x.course == y.course) && (x.room == y.room)) (x.mask == y.mask) (and_right (x.course == y.course) (x.room == y.room) (ne_eqb x.room y.room (λ e. absurd (omega arith))))
before_differs x y (inr (same, inr (room, mask))) = and_right ((x.course == y.course) && (x.room == y.room)) (x.mask == y.mask) (ne_eqb x.mask y.mask (λ e. absurd (omega arith)))

pub first_event : (test : ℕ → Bool) (n : ℕ) → any_below test n ≡ true → (e : ℕ) × (e < n) × (test e ≡ true)
first_event test zero h = absurd (true≢false (sym h))
first_event test (suc n) h = elim (cases_Bool (test n)) [
  | inl hit ↦ (n, omega arith, hit)
  | inr miss ↦ let rest = first_event test n (sym (ap (λ b. b || any_below test n) miss) ∙ h) in (rest.0, omega (arith, rest.1), rest.2)
]

-- a slot that stands in both lists
pub common : (ss ts : List ℕ) (t : ℕ) → list_any (λ s. s == t) ss ≡ true → list_any (λ s. s == t) ts ≡ true → list_any (λ s. list_any (λ u. u == s) ts) ss ≡ true
common [] ts t h k = absurd (true≢false (sym h))
common (s ∷ ss) ts t h k = elim (cases_eq s t) [
  | inl same ↦ or_left (list_any (λ u. u == s) ts) _ (ap (λ v. list_any (λ u. u == v) ts) same ∙ k)
  | inr other ↦ or_right (list_any (λ u. u == s) ts) _ (common ss ts t (sym (ap (λ b. b || list_any (λ v. v == t) ss) (ne_eqb s t other)) ∙ h) k)
]

slot_shared : (p : Facts) (x y : Pattern) (t : ℕ) → takes p x t ≡ true → takes p y t ≡ true → share_a_slot p x y ≡ true
slot_shared p x y t hx hy =
    let e = first_event (λ g. within p x g && takes_slot p g t) (length p.events) hx in
    let f = first_event (λ g. within p y g && takes_slot p g t) (length p.events) hy in
    let a = and_parts (within p x e.0) (takes_slot p e.0 t) e.2 in
    let b = and_parts (within p y f.0) (takes_slot p f.0 t) f.2 in
    any_below_at (λ g. within p x g && any_below (λ h. within p y h && share_slot p g h) (length p.events)) e.0 (length p.events) e.1
    (and_from (within p x e.0) _ a.0 (any_below_at (λ h. within p y h && share_slot p e.0 h) f.0 (length p.events) f.1
    (and_from (within p y f.0) (share_slot p e.0 f.0) b.0 (common (event_at p e.0).takes (event_at p f.0).takes t a.1 b.1))))

row_clash : (p : Facts) (row : Row) (x y : Pattern) → is_same x y ≡ false → stands_in p row x ≡ true → stands_in p row y ≡ true → clash p x y ≡ true
row_clash p (Event e) x y differ hx hy =
    let a = and_parts (nat_lt e (length p.events)) (within p x e) hx in
    let b = and_parts (nat_lt e (length p.events)) (within p y e) hy in
    and_from (not (is_same x y)) _ (not_from_false (is_same x y) differ)
    (or_left (share_event p x y) _ (any_below_at (λ f. within p x f && within p y f) e (length p.events) (ltb-true e (length p.events) a.0) (and_from (within p x e) (within p y e) a.1 b.1)))
row_clash p (RoomSlot r t) x y differ hx hy =
    let a = and_parts (x.room == r) (takes p x t) hx in
    let b = and_parts (y.room == r) (takes p y t) hy in
    and_from (not (is_same x y)) _ (not_from_false (is_same x y) differ)
    (or_right (share_event p x y) _ (and_from (x.room == y.room) _ (eq-eqb x.room y.room (eqb-true x.room r a.0 ∙ sym (eqb-true y.room r b.0)))
    (or_left (share_a_slot p x y) (x.course == y.course) (slot_shared p x y t a.1 b.1))))
row_clash p (CourseRoom c r) x y differ hx hy =
    let a = and_parts (x.course == c) (x.room == r) hx in
    let b = and_parts (y.course == c) (y.room == r) hy in
    and_from (not (is_same x y)) _ (not_from_false (is_same x y) differ)
    (or_right (share_event p x y) _ (and_from (x.room == y.room) _ (eq-eqb x.room y.room (eqb-true x.room r a.1 ∙ sym (eqb-true y.room r b.1)))
    (or_right (share_a_slot p x y) (x.course == y.course) (eq-eqb x.course y.course (eqb-true x.course c a.0 ∙ sym (eqb-true y.course c b.0))))))
row_clash p (Cut i) x y differ hx hy = absurd (true≢false (sym hx))
row_clash p (Level k) x y differ hx hy = absurd (true≢false (sym hx))

pub base_clash : (p : Facts) (s : List Pattern) (row : Row) (i j : ℕ) → ArePatterns p s → i < j → j < length s → stands_in p row (pattern_at s i) ≡ true → stands_in p row (pattern_at s j) ≡ true
    → clash p (pattern_at s i) (pattern_at s j) ≡ true
base_clash p s row i j are l m hx hy = row_clash p row (pattern_at s i) (pattern_at s j) (before_differs (pattern_at s i) (pattern_at s j) (are.rising i j l m)) hx hy

differs_back : (x y : Pattern) → is_same x y ≡ false → is_same y x ≡ false
differs_back x y h = elim (cases_Bool (is_same y x)) [
  | inl same ↦
      let outer = and_parts ((y.course == x.course) && (y.room == x.room)) (y.mask == x.mask) same in
      let inner = and_parts (y.course == x.course) (y.room == x.room) outer.0 in
      let back : is_same x y ≡ true =
      and_from ((x.course == y.course) && (x.room == y.room)) (x.mask == y.mask)
      (and_from (x.course == y.course) (x.room == y.room) (eq-eqb x.course y.course (sym (eqb-true y.course x.course inner.0))) (eq-eqb x.room y.room (sym (eqb-true y.room x.room inner.1))))
      (eq-eqb x.mask y.mask (sym (eqb-true y.mask x.mask outer.1))) in
      absurd (true≢false (sym back ∙ h))
  | inr other ↦ other
]

-- the same in any order
pub base_clash_any : (p : Facts) (s : List Pattern) (row : Row) (i j : ℕ) → ArePatterns p s → i ≢ j → i < length s → j < length s → stands_in p row (pattern_at s i) ≡ true → stands_in p row (pattern_at s j) ≡ true
    → clash p (pattern_at s i) (pattern_at s j) ≡ true
base_clash_any p s row i j are other l m hx hy = elim (cases_lt i j) [
  | inl before ↦ base_clash p s row i j are before m hx hy
  | inr after ↦
      let differ : is_same (pattern_at s i) (pattern_at s j) ≡ false = differs_back (pattern_at s j) (pattern_at s i) (before_differs (pattern_at s j) (pattern_at s i) (are.rising j i (omega (arith, after, other)) l)) in
      row_clash p row (pattern_at s i) (pattern_at s j) differ hx hy
]
