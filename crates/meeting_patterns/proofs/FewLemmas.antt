-- Patterns that don't clash are at most as many as the events: each holds one, and no event stands in two.
use Rattle.std.proofs.Common.{ℕ, ◌≡◌, ◌<◌, ◌≤◌, inl, inr, zero, suc, Bool, true, false, not, ◌&&◌, ◌||◌, refl, arith, ap, sym, ◌∙◌, List, [], ◌∷◌, length, get_or}
use Rattle.std.specs.Prelude.{pos, ◌≤ℤ◌, nat_lt, if◌then◌else◌}
use Rattle.std.specs.List.{list_all}
use Rattle.std.proofs.lemmas.Int.{ints}
use Rattle.std.proofs.lemmas.Bool.{cases_Bool, and_parts, and_from, not_from_false, false_from_ne_true, lt-ltb, ltb-true, true≢false}
use Rattle.numbers.specs.Below.{any_below}
use Rattle.numbers.specs.Sums.{value, total, member, distinct, value-member}
use Rattle.problem_core.specs.Facts.{Facts}
use Rattle.meeting_patterns.specs.Pattern.{within, ArePatterns, pattern_at}
use Rattle.meeting_patterns.specs.Made.{AreClashless}
use Rattle.meeting_patterns.specs.declared.pattern.Pattern.{Pattern}
use Rattle.meeting_patterns.proofs.MadeLemmas.{only_one, at_list, member_at}
use Rattle.meeting_patterns.proofs.SumLemmas.{some_event}

-- the last number below the bound that passes
last_of : (ℕ → Bool) → ℕ → ℕ
last_of test zero = 0
last_of test (suc n) = if test n then n else last_of test n

last_is : (test : ℕ → Bool) (n : ℕ) → any_below test n ≡ true → (last_of test n < n) × (test (last_of test n) ≡ true)
unfolding last_of
last_is test zero h = absurd (true≢false (sym h))
last_is test (suc n) h = elim (cases_Bool (test n)) [
  | inl hit ↦ rw hit (omega arith, hit)
  | inr miss ↦ let rest = last_is test n (sym (ap (λ b. b || any_below test n) miss) ∙ h) in rw miss (omega (arith, rest.0), rest.1)
]

member_from : (i : ℕ) (list : List ℕ) → ((j : ℕ) → j < length list → get_or list j 0 ≡ i → ⊥) → member i list ≡ false
member_from i list h = false_from_ne_true (member i list) (λ m. let at = member_at i list m in h at.0 at.1 at.2)

distinct_from : (list : List ℕ) → ((j k : ℕ) → j < k → k < length list → get_or list j 0 ≡ get_or list k 0 → ⊥) → distinct list ≡ true
distinct_from [] h = refl
distinct_from (q ∷ qs) h =
    and_from (not (member q qs)) (distinct qs)
    (not_from_false (member q qs) (member_from q qs (λ j l e. h 0 (suc j) (omega arith) (omega arith) (sym e))))
    (distinct_from qs (λ j k l m. h (suc j) (suc k) (omega arith) (omega arith)))

known_from : (list : List ℕ) (n : ℕ) → ((j : ℕ) → j < length list → get_or list j 0 < n) → list_all (λ p. nat_lt p n) list ≡ true
known_from [] n h = refl
known_from (q ∷ qs) n h = and_from (nat_lt q n) (list_all (λ p. nat_lt p n) qs) (lt-ltb q n (h 0 (omega arith))) (known_from qs n (λ j l. h (suc j) (omega arith)))

ones : (list : List ℕ) → total (λ (p : ℕ). pos 1) list ≡ pos (length list)
ones [] = refl
ones (q ∷ qs) = omega (arith, ints, ones qs)

once : (p : Facts) (s : List Pattern) (list : List ℕ) (e i j : ℕ) → ArePatterns p s → AreClashless p s list → i < j
    → (member i list && (nat_lt e (length p.events) && within p (pattern_at s i) e)) ≡ true → (member j list && (nat_lt e (length p.events) && within p (pattern_at s j) e)) ≡ true → ⊥
unfolding at_list
once p s list e i j are free l hi hj =
    let a = and_parts (member i list) (nat_lt e (length p.events) && within p (pattern_at s i) e) hi in
    let b = and_parts (member j list) (nat_lt e (length p.events) && within p (pattern_at s j) e) hj in
    let a2 = and_parts (nat_lt e (length p.events)) (within p (pattern_at s i) e) a.1 in
    let b2 = and_parts (nat_lt e (length p.events)) (within p (pattern_at s j) e) b.1 in
    let at_i = member_at i list a.0 in
    let at_j = member_at j list b.0 in
    let same = only_one p s list e at_i.0 at_j.0 are free (ltb-true e (length p.events) a2.0) at_i.1 at_j.1
    (ap (λ x. within p (pattern_at s x) e) at_i.2 ∙ a2.1) (ap (λ x. within p (pattern_at s x) e) at_j.2 ∙ b2.1) in
    let equal : i ≡ j = sym at_i.2 ∙ ap (λ k. get_or list k 0) same ∙ at_j.2 in
    absurd (omega arith)

pub few_patterns : ((count events : ℕ) (has : ℕ → Bool) (within : ℕ → ℕ → Bool) (some : ℕ → ℕ)
    → ((p : ℕ) → p < count → (some p < events) × (within p (some p) ≡ true))
    → ((e p q : ℕ) → p < q → q < count → (has p && within p e) ≡ true → (has q && within q e) ≡ true → ⊥)
    → value has (λ p. pos 1) count ≤ℤ pos events)
    → (p : Facts) (s : List Pattern) (list : List ℕ) → ArePatterns p s → AreClashless p s list → length list ≤ length p.events
few_patterns law p s list are free =
    let holds : ℕ → ℕ → Bool = λ i e. nat_lt e (length p.events) && within p (pattern_at s i) e in
    let some : ℕ → ℕ = λ i. last_of (within p (pattern_at s i)) (length p.events) in
    let at_most : value (λ i. member i list) (λ i. pos 1) (length s) ≤ℤ pos (length p.events) =
    law (length s) (length p.events) (λ i. member i list) holds some
    (λ i l.
    let last = last_is (within p (pattern_at s i)) (length p.events) (some_event p (pattern_at s i) (are.each i l)) in
    (last.0, and_from (nat_lt (some i) (length p.events)) (within p (pattern_at s i) (some i)) (lt-ltb (some i) (length p.events) last.0) last.1))
    (λ e i j l m hi hj. once p s list e i j are free l hi hj) in
    let counted = value-member (λ (i : ℕ). pos 1) list (length s) (distinct_from list free.differ) (known_from list (length s) free.known) in
    omega (arith, ints, at_most, counted, ones list)
