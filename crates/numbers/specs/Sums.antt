-- Sums over the numbers below a bound, over those of them that are picked, and over lists.
use Rattle.std.proofs.Common.{ℕ, ◌≡◌, ◌+◌, ◌<◌, ◌≤◌, arith, refl, sym, ◌∙◌, ap, zero, suc, Bool, true, false, not, ◌||◌, List, [], ◌∷◌, inl, inr, add-one}
use Rattle.std.specs.Prelude.{ℤ, pos, ◌+ℤ◌, ◌*ℤ◌, ◌≤ℤ◌, ◌==◌, nat_lt, ◌&&◌, if◌then◌else◌}
use Rattle.std.specs.List.{list_all}
use Rattle.std.proofs.lemmas.Int.{ints}
use Rattle.std.proofs.lemmas.Bool.{and_parts, not-true, cases_eq, eq-eqb, ne_eqb, ltb-true, true≢false, cases_Bool}
use Rattle.std.proofs.Math.IntN.{*ℤ-zero}
use Rattle.numbers.specs.Algebra.{*ℤ-+ℤ}

-- f 0 + f 1 + .. + f (n - 1)
abbrev pub sum_below : (ℕ → ℤ) → ℕ → ℤ
sum_below f zero = pos 0
sum_below f (suc n) = sum_below f n +ℤ f n

abbrev pub picked : Bool → ℤ → ℤ
picked b x = if b then x else pos 0

-- the sum of f over the numbers below n that has picks
abbrev pub value : (ℕ → Bool) → (ℕ → ℤ) → ℕ → ℤ
value has f n = sum_below (λ p. picked (has p) (f p)) n

-- the sum of f over a list
abbrev pub total : {A : Type 0} → (A → ℤ) → List A → ℤ
total f [] = pos 0
total f (x ∷ xs) = f x +ℤ total f xs

abbrev pub member : ℕ → List ℕ → Bool
member p [] = false
member p (q ∷ qs) = (q == p) || member p qs

abbrev pub distinct : List ℕ → Bool
distinct [] = true
distinct (q ∷ qs) = not (member q qs) && distinct qs

pub sum_below-same : (f g : ℕ → ℤ) (n : ℕ) → ((i : ℕ) → i < n → f i ≡ g i) → sum_below f n ≡ sum_below g n
sum_below-same f g zero h = refl
sum_below-same f g (suc n) h = ap (λ x. x +ℤ f n) (sum_below-same f g n (λ i l. h i (omega arith))) ∙ ap (λ x. sum_below g n +ℤ x) (h n (omega arith))

pub sum_below-le : (f g : ℕ → ℤ) (n : ℕ) → ((i : ℕ) → i < n → f i ≤ℤ g i) → sum_below f n ≤ℤ sum_below g n
sum_below-le f g zero h = omega (arith, ints)
sum_below-le f g (suc n) h =
    let rest : sum_below f n ≤ℤ sum_below g n = sum_below-le f g n (λ i l. h i (omega arith)) in
    let here : f n ≤ℤ g n = h n (omega arith) in
    omega (arith, ints)

pub sum_below-+ℤ : (f g : ℕ → ℤ) (n : ℕ) → sum_below (λ i. f i +ℤ g i) n ≡ (sum_below f n) +ℤ (sum_below g n)
sum_below-+ℤ f g zero = refl
sum_below-+ℤ f g (suc n) = omega (arith, ints, sum_below-+ℤ f g n)

pub sum_below-*ℤ : (c : ℤ) (f : ℕ → ℤ) (n : ℕ) → sum_below (λ i. c *ℤ f i) n ≡ c *ℤ (sum_below f n)
sum_below-*ℤ c f zero = sym (*ℤ-zero c)
sum_below-*ℤ c f (suc n) = ap (λ x. x +ℤ (c *ℤ f n)) (sum_below-*ℤ c f n) ∙ sym (*ℤ-+ℤ c (sum_below f n) (f n))

pub sum_below-zero : (f : ℕ → ℤ) (n : ℕ) → ((i : ℕ) → i < n → f i ≡ pos 0) → sum_below f n ≡ pos 0
sum_below-zero f zero h = refl
sum_below-zero f (suc n) h = omega (arith, ints, sum_below-zero f n (λ i l. h i (omega arith)), h n (omega arith))

pub sum_below-exchanged : (f : ℕ → ℕ → ℤ) (m n : ℕ) → sum_below (λ i. sum_below (f i) n) m ≡ sum_below (λ j. sum_below (λ i. f i j) m) n
sum_below-exchanged f zero n = sym (sum_below-zero (λ _. pos 0) n (λ i l. refl))
sum_below-exchanged f (suc m) n =
    ap (λ x. x +ℤ sum_below (f m) n) (sum_below-exchanged f m n) ∙ sym (sum_below-+ℤ (λ j. sum_below (λ i. f i j) m) (f m) n)

pub sum_below-more : (f : ℕ → ℤ) (n : ℕ) (x : ℤ) → x ≡ f n → sum_below f (n + 1) ≡ sum_below f n +ℤ x
sum_below-more f n x e = rw (add-one, e) refl

pub picked-+ℤ : (b : Bool) (x y : ℤ) → picked b (x +ℤ y) ≡ picked b x +ℤ picked b y
picked-+ℤ true x y = refl
picked-+ℤ false x y = refl

pub picked-*ℤ : (b : Bool) (c x : ℤ) → picked b (c *ℤ x) ≡ c *ℤ picked b x
picked-*ℤ true c x = refl
picked-*ℤ false c x = sym (*ℤ-zero c)

pub value-+ℤ : (has : ℕ → Bool) (f g : ℕ → ℤ) (n : ℕ) → value has (λ p. f p +ℤ g p) n ≡ value has f n +ℤ value has g n
value-+ℤ has f g n =
    sum_below-same (λ p. picked (has p) (f p +ℤ g p)) (λ p. picked (has p) (f p) +ℤ picked (has p) (g p)) n (λ i l. picked-+ℤ (has i) (f i) (g i))
    ∙ sum_below-+ℤ (λ p. picked (has p) (f p)) (λ p. picked (has p) (g p)) n

pub value-*ℤ : (has : ℕ → Bool) (c : ℤ) (f : ℕ → ℤ) (n : ℕ) → value has (λ p. c *ℤ f p) n ≡ c *ℤ value has f n
value-*ℤ has c f n =
    sum_below-same (λ p. picked (has p) (c *ℤ f p)) (λ p. c *ℤ picked (has p) (f p)) n (λ i l. picked-*ℤ (has i) c (f i))
    ∙ sum_below-*ℤ c (λ p. picked (has p) (f p)) n

-- ---- a list of different numbers, and the numbers that stand in it

pub sum_below-only : (f : ℕ → ℤ) (q n : ℕ) → n ≤ q → sum_below (λ p. picked (q == p) (f p)) n ≡ pos 0
sum_below-only f q n h = sum_below-zero (λ p. picked (q == p) (f p)) n (λ i l. rw (ne_eqb q i (λ e. absurd (omega arith))) refl)

pub sum_below-one : (f : ℕ → ℤ) (q n : ℕ) → q < n → sum_below (λ p. picked (q == p) (f p)) n ≡ f q
sum_below-one f q zero l = absurd (omega arith)
sum_below-one f q (suc n) l = elim (cases_eq q n) [
  | inl e ↦ let none = sum_below-only f q n (omega arith) in rw (eq-eqb q n e) (omega (arith, ints, none, ap f e))
  | inr ne ↦ rw (ne_eqb q n ne) (omega (arith, ints, sum_below-one f q n (omega arith)))
]

pub picked-|| : (a b : Bool) (x : ℤ) → (a ≡ true → b ≡ false) → picked (a || b) x ≡ picked a x +ℤ picked b x
picked-|| true b x h = rw (h refl) (omega (arith, ints))
picked-|| false b x h = omega (arith, ints)

pub value-member : (f : ℕ → ℤ) (ps : List ℕ) (n : ℕ) → distinct ps ≡ true → list_all (λ p. nat_lt p n) ps ≡ true → value (λ p. member p ps) f n ≡ total f ps
value-member f [] n d b = sum_below-zero (λ p. pos 0) n (λ i l. refl)
value-member f (q ∷ qs) n d b =
    let apart = and_parts (not (member q qs)) (distinct qs) d in
    let below = and_parts (nat_lt q n) (list_all (λ p. nat_lt p n) qs) b in
    let here : (i : ℕ) → (q == i) ≡ true → member i qs ≡ false = λ i e. elim (cases_eq q i) [
      | inl same ↦ rw (← same) (not-true (member q qs) apart.0)
      | inr ne ↦ absurd (true≢false (sym e ∙ ne_eqb q i ne))
    ] in
    sum_below-same (λ p. picked ((q == p) || member p qs) (f p)) (λ p. picked (q == p) (f p) +ℤ picked (member p qs) (f p)) n (λ i l. picked-|| (q == i) (member i qs) (f i) (here i))
    ∙ sum_below-+ℤ (λ p. picked (q == p) (f p)) (λ p. picked (member p qs) (f p)) n
    ∙ ap (λ x. x +ℤ value (λ p. member p qs) f n) (sum_below-one f q n (ltb-true q n below.0))
    ∙ ap (λ x. f q +ℤ x) (value-member f qs n apart.1 below.1)

-- ---- at most one

pub at_most_one : (test : ℕ → Bool) (n : ℕ) → ((p q : ℕ) → p < q → q < n → test p ≡ true → test q ≡ true → ⊥) → sum_below (λ p. picked (test p) (pos 1)) n ≤ℤ pos 1
at_most_one test zero h = omega (arith, ints)
at_most_one test (suc n) h = elim (cases_Bool (test n)) [
  | inl yes_n ↦
      let none = sum_below-zero (λ p. picked (test p) (pos 1)) n (λ i l. elim (cases_Bool (test i)) [
        | inl t ↦ absurd (h i n l (omega arith) t yes_n)
        | inr f ↦ rw f refl
      ]) in
      rw yes_n (omega (arith, ints, none))
  | inr no_n ↦ let rest = at_most_one test n (λ p q l m. h p q l (omega arith)) in rw no_n (omega (arith, ints, rest))
]
