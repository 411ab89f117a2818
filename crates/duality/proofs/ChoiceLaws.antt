-- What the chosen patterns weigh is what the events gain.
use Rattle.std.proofs.Common.{arith, suc, zero, ℕ, ◌≡◌, ◌<◌, refl, sym, ◌∙◌, ap, Bool, true, false, ◌&&◌, inl, inr}
use Rattle.std.specs.Prelude.{◌≤ℤ◌, ℤ, pos, ◌==◌}
use Rattle.std.proofs.lemmas.Int.{ints}
use Rattle.std.proofs.lemmas.Bool.{cases_Bool, cases_eq}
use Rattle.numbers.specs.Sums.{sum_below, picked, value, sum_below-le, at_most_one, sum_below-same, sum_below-zero, sum_below-one, sum_below-exchanged}

picked_sum : (b : Bool) (f : ℕ → ℤ) (n : ℕ) → picked b (sum_below f n) ≡ sum_below (λ e. picked b (f e)) n
picked_sum true f n = refl
picked_sum false f n = sym (sum_below-zero (λ e. pos 0) n (λ i l. refl))

picked_twice : (a b c : Bool) (x : ℤ) → (a && b) ≡ c → picked a (picked b x) ≡ picked c x
picked_twice true b c x h = ap (λ t. picked t x) h
picked_twice false b c x h = ap (λ t. picked t x) h

-- An event that has a room stands in one chosen pattern, its holder; the others stand in none.
pub sum_by_holder : (count events : ℕ) (chosen : ℕ → Bool) (within : ℕ → ℕ → Bool) (gain : ℕ → ℕ → ℤ) (has_room : ℕ → Bool) (holder : ℕ → ℕ)
    → ((e : ℕ) → e < events → has_room e ≡ true → holder e < count)
    → ((i e : ℕ) → i < count → e < events → (chosen i && within i e) ≡ (has_room e && (holder e == i)))
    → value chosen (λ i. sum_below (λ e. picked (within i e) (gain i e)) events) count ≡ sum_below (λ e. picked (has_room e) (gain (holder e) e)) events
sum_by_holder count events chosen within gain has_room holder known one =
    sum_below-same _ (λ i. sum_below (λ e. picked (chosen i) (picked (within i e) (gain i e))) events) count (λ i l. picked_sum (chosen i) (λ e. picked (within i e) (gain i e)) events)
    ∙ sum_below-exchanged (λ i e. picked (chosen i) (picked (within i e) (gain i e))) count events
    ∙ sum_below-same _ (λ e. picked (has_room e) (gain (holder e) e)) events (λ e l.
    sum_below-same _ (λ i. picked (has_room e && (holder e == i)) (gain i e)) count (λ i m. picked_twice (chosen i) (within i e) (has_room e && (holder e == i)) (gain i e) (one i e m l))
    ∙ only e l)
  where
    only : (e : ℕ) → e < events → sum_below (λ i. picked (has_room e && (holder e == i)) (gain i e)) count ≡ picked (has_room e) (gain (holder e) e)
    only e l = elim (cases_Bool (has_room e)) [
      | inl h ↦ rw h (sum_below-one (λ i. gain i e) (holder e) count (known e l h))
      | inr h ↦ rw h (sum_below-zero (λ i. pos 0) count (λ i m. refl))
    ]

sum_below-nonneg : (f : ℕ → ℤ) (n : ℕ) → ((i : ℕ) → i < n → pos 0 ≤ℤ f i) → pos 0 ≤ℤ sum_below f n
sum_below-nonneg f zero h = omega (arith, ints)
sum_below-nonneg f (suc n) h =
    let rest = sum_below-nonneg f n (λ i l. h i (omega arith)) in
    let here = h n (omega arith) in
    omega (arith, ints)

-- a part is at most the sum of parts that are not negative
pub part-le : (f : ℕ → ℤ) (m n : ℕ) → m < n → ((i : ℕ) → i < n → pos 0 ≤ℤ f i) → f m ≤ℤ sum_below f n
part-le f m zero l h = absurd (omega arith)
part-le f m (suc n) l h = elim (cases_eq m n) [
  | inl same ↦
      let rest = sum_below-nonneg f n (λ i k. h i (omega arith)) in
      omega (arith, ints, rest, ap f same)
  | inr ne ↦
      let rest = part-le f m n (omega arith) (λ i k. h i (omega arith)) in
      let here = h n (omega arith) in
      omega (arith, ints)
]

nonneg : (b : Bool) → pos 0 ≤ℤ picked b (pos 1)
nonneg true = omega (arith, ints)
nonneg false = omega (arith, ints)

ones_sum : (n : ℕ) → sum_below (λ e. pos 1) n ≡ pos n
ones_sum zero = refl
ones_sum (suc n) = omega (arith, ints, ones_sum n)

-- Patterns that do not clash are no more than the events: each takes an event, and no event is taken twice.
pub few_chosen : (count events : ℕ) (has : ℕ → Bool) (within : ℕ → ℕ → Bool) (some : ℕ → ℕ)
    → ((p : ℕ) → p < count → (some p < events) × (within p (some p) ≡ true))
    → ((e p q : ℕ) → p < q → q < count → (has p && within p e) ≡ true → (has q && within q e) ≡ true → ⊥)
    → value has (λ p. pos 1) count ≤ℤ pos events
few_chosen count events has within some there once =
    let each : (p : ℕ) → p < count → picked (has p) (pos 1) ≤ℤ sum_below (λ e. picked (has p && within p e) (pos 1)) events = λ p l.
    let at = there p l in
    let part = part-le (λ e. picked (has p && within p e) (pos 1)) (some p) events at.0 (λ e k. nonneg (has p && within p e)) in
    let same : picked (has p && within p (some p)) (pos 1) ≡ picked (has p) (pos 1) = ap (λ b. picked (has p && b) (pos 1)) at.1 ∙ and_true (has p) in
    omega (arith, ints, part, same) in
    let first = sum_below-le (λ p. picked (has p) (pos 1)) (λ p. sum_below (λ e. picked (has p && within p e) (pos 1)) events) count each in
    let turned = sum_below-exchanged (λ p e. picked (has p && within p e) (pos 1)) count events in
    let last = sum_below-le (λ e. sum_below (λ p. picked (has p && within p e) (pos 1)) count) (λ e. pos 1) events (λ e l. at_most_one (λ p. has p && within p e) count (λ p q. once e p q)) in
    omega (arith, ints, first, turned, last, ones_sum events)
  where
    and_true : (b : Bool) → picked (b && true) (pos 1) ≡ picked b (pos 1)
    and_true true = refl
    and_true false = refl
