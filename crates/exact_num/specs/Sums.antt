-- Finite sums of fractions.
use Rattle.std.proofs.Common.{ℕ, ◌≡◌, ◌<◌, arith, refl, sym, ◌∙◌, ap, ap₂, zero, suc, ◌≢◌, eq-or-lt_of_le, inl, inr, ◌⊎◌, ◌+◌, add-one, List, get_or, length}
use Rattle.exact_num.specs.Q.{ℚ}
use Rattle.exact_num.specs.Ops.{zero_ℚ, ◌+ℚ◌, ◌*ℚ◌, +ℚ_middle, +ℚ-last, +ℚ-zero, zero-+ℚ, *ℚ-+ℚ, *ℚ-zero}

abbrev pub sum_ℚ : (ℕ → ℚ) → ℕ → ℚ
sum_ℚ f zero = zero_ℚ
sum_ℚ f (suc n) = sum_ℚ f n +ℚ f n

pub sum_ℚ-same : (f g : ℕ → ℚ) (n : ℕ) → ((i : ℕ) → i < n → f i ≡ g i) → sum_ℚ f n ≡ sum_ℚ g n
sum_ℚ-same f g zero h = refl
sum_ℚ-same f g (suc n) h = ap₂ (λ x y. x +ℚ y) (sum_ℚ-same f g n (λ i l. h i (omega arith))) (h n (omega arith))

pub sum_ℚ-add : (f g : ℕ → ℚ) (n : ℕ) → sum_ℚ (λ i. f i +ℚ g i) n ≡ sum_ℚ f n +ℚ sum_ℚ g n
sum_ℚ-add f g zero = sym (+ℚ-zero zero_ℚ)
sum_ℚ-add f g (suc n) = ap (λ x. x +ℚ (f n +ℚ g n)) (sum_ℚ-add f g n) ∙ +ℚ_middle (sum_ℚ f n) (sum_ℚ g n) (f n) (g n)

pub sum_ℚ-scale : (c : ℚ) (f : ℕ → ℚ) (n : ℕ) → sum_ℚ (λ i. c *ℚ f i) n ≡ c *ℚ sum_ℚ f n
sum_ℚ-scale c f zero = sym (*ℚ-zero c)
sum_ℚ-scale c f (suc n) = ap (λ x. x +ℚ (c *ℚ f n)) (sum_ℚ-scale c f n) ∙ sym (*ℚ-+ℚ c (sum_ℚ f n) (f n))

pub sum_ℚ-zero : (n : ℕ) → sum_ℚ (λ _. zero_ℚ) n ≡ zero_ℚ
sum_ℚ-zero zero = refl
sum_ℚ-zero (suc n) = +ℚ-zero (sum_ℚ (λ _. zero_ℚ) n) ∙ sum_ℚ-zero n

pub sum_ℚ-exchanged : (f : ℕ → ℕ → ℚ) (m n : ℕ) → sum_ℚ (λ i. sum_ℚ (f i) n) m ≡ sum_ℚ (λ j. sum_ℚ (λ i. f i j) m) n
sum_ℚ-exchanged f zero n = sym (sum_ℚ-zero n)
sum_ℚ-exchanged f (suc m) n =
    ap (λ x. x +ℚ sum_ℚ (f m) n) (sum_ℚ-exchanged f m n) ∙ sym (sum_ℚ-add (λ j. sum_ℚ (λ i. f i j) m) (f m) n)

-- two functions that differ at one place only
pub sum_ℚ-replaced : (f g : ℕ → ℚ) (r n : ℕ) → r < n → ((p : ℕ) → p < n → p ≢ r → g p ≡ f p) → sum_ℚ g n +ℚ f r ≡ sum_ℚ f n +ℚ g r
sum_ℚ-replaced f g r zero l h = absurd (omega arith)
sum_ℚ-replaced f g r (suc n) l h =
    let go : (r ≡ n) ⊎ (r < n) → sum_ℚ g (suc n) +ℚ f r ≡ sum_ℚ f (suc n) +ℚ g r = elim [
      | inl e ↦
          let low : sum_ℚ g n ≡ sum_ℚ f n = sum_ℚ-same g f n (λ p k. h p (omega arith) (λ s. omega arith)) in
          ap₂ (λ x k. (x +ℚ g k) +ℚ f r) low (sym e) ∙ +ℚ-last (sum_ℚ f n) (g r) (f r) ∙ ap (λ k. (sum_ℚ f n +ℚ f k) +ℚ g r) e
      | inr k ↦
          +ℚ-last (sum_ℚ g n) (g n) (f r) ∙ ap₂ (λ x y. x +ℚ y) (sum_ℚ-replaced f g r n k (λ p j. h p (omega arith))) (h n (omega arith) (λ s. omega arith)) ∙ +ℚ-last (sum_ℚ f n) (g r) (f n)
    ] in
    go (eq-or-lt_of_le (omega arith))

-- one term that counts
pub sum_ℚ-one : (f : ℕ → ℚ) (r n : ℕ) → r < n → ((p : ℕ) → p < n → p ≢ r → f p ≡ zero_ℚ) → sum_ℚ f n ≡ f r
sum_ℚ-one f r n l h =
    sym (+ℚ-zero (sum_ℚ f n)) ∙ sum_ℚ-replaced (λ _. zero_ℚ) f r n l h ∙ ap (λ x. x +ℚ f r) (sum_ℚ-zero n) ∙ zero-+ℚ (f r)

pub sum_ℚ-more : (f : ℕ → ℚ) (n : ℕ) (x : ℚ) → x ≡ f n → sum_ℚ f (n + 1) ≡ sum_ℚ f n +ℚ x
sum_ℚ-more f n x e = rw (add-one, e) refl

-- the entry at a place, or 0 past the end; and the sum of the products of the entries
abbrev pub entry_ℚ : List ℚ → ℕ → ℚ
entry_ℚ qs i = get_or qs i zero_ℚ

abbrev pub dot_ℚ : List ℚ → List ℚ → ℚ
dot_ℚ ps qs = sum_ℚ (λ i. entry_ℚ ps i *ℚ entry_ℚ qs i) (length ps)
