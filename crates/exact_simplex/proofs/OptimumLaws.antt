-- Laws of specs/Optimum.
use Rattle.std.proofs.Common.{ℕ, ◌≡◌, ◌≢◌, ◌+◌, ◌<◌, sym, ◌∙◌, ap, subst, inl, inr, ◌⊎◌, Bool, true, false}
use Rattle.std.proofs.Math.Decide.{ℕ_discrete}
use Rattle.exact_num.specs.Q.{ℚ}
use Rattle.exact_num.specs.Ops.{zero_ℚ, one_ℚ, neg_ℚ, ◌+ℚ◌, ◌*ℚ◌, +ℚ_assoc, +ℚ_comm, +ℚ-zero, zero-+ℚ, +ℚ-neg, *ℚ-one, one-*ℚ, *ℚ-zero, neg-*ℚ}
use Rattle.exact_num.specs.Sums.{sum_ℚ, sum_ℚ-same, sum_ℚ-scale, sum_ℚ-one}
use Rattle.exact_num.specs.Order.{◌≤ℚ◌, ≤ℚ_refl, <ℚ_or_≤ℚ, <ℚ-≤ℚ, zero-<ℚ-one, +ℚ-≤ℚ}
use Rattle.simplex_tableau.specs.Pivot.{dot}
use Rattle.simplex_tableau.proofs.PivotLaws.{dual_value}
use Rattle.simplex_tableau.specs.Basis.{IsBasis}
use Rattle.exact_simplex.specs.Point.{HasSlacks}
use Rattle.simplex_tableau.proofs.StatesLaws.{neg_up, neg-zero, times-neg}
use Rattle.exact_simplex.specs.Enter.{Helps}
use Rattle.exact_simplex.specs.Optimum.{signed}

pub not_helps : (up : Bool) (q : ℚ) → (Helps up q → ⊥) → zero_ℚ ≤ℚ signed up q
not_helps true q h = elim (<ℚ_or_≤ℚ q zero_ℚ) [ inl l ↦ absurd (h l) | inr l ↦ l ]
not_helps false q h = elim (<ℚ_or_≤ℚ zero_ℚ q) [ inl l ↦ absurd (h l) | inr l ↦ neg_up q l ]

pub signed-zero : (up : Bool) → signed up zero_ℚ ≡ zero_ℚ
signed-zero true = refl_zero
  where
    refl_zero : zero_ℚ ≡ zero_ℚ
    refl_zero = sym (+ℚ-zero zero_ℚ) ∙ +ℚ-zero zero_ℚ
signed-zero false = neg-zero

-- a product with the signed row is the signed product
pub signed_dot : (up : Bool) (y a : ℕ → ℚ) (size : ℕ) → dot (λ k. signed up (y k)) a size ≡ signed up (dot y a size)
signed_dot true y a size = sum_ℚ-same (λ k. y k *ℚ a k) (λ k. y k *ℚ a k) size (λ k l. sym (+ℚ-zero (y k *ℚ a k)) ∙ +ℚ-zero (y k *ℚ a k))
signed_dot false y a size =
    sum_ℚ-same (λ k. neg_ℚ (y k) *ℚ a k) (λ k. neg_ℚ one_ℚ *ℚ (y k *ℚ a k)) size
    (λ k l. neg-*ℚ (y k) (a k) ∙ sym (neg-*ℚ one_ℚ (y k *ℚ a k) ∙ ap neg_ℚ (one-*ℚ (y k *ℚ a k))))
    ∙ sum_ℚ-scale (neg_ℚ one_ℚ) (λ k. y k *ℚ a k) size ∙ neg-*ℚ one_ℚ (dot y a size) ∙ ap neg_ℚ (one-*ℚ (dot y a size))

-- a product with the column of a slack
pub dot_slack : (size n i : ℕ) (column : ℕ → ℕ → ℚ) (y : ℕ → ℚ) → HasSlacks size n column → i < size → dot y (column (n + i)) size ≡ y i
dot_slack size n i column y slacks l =
    sum_ℚ-one (λ k. y k *ℚ column (n + i) k) i size l (λ k j s. ap (λ u. y k *ℚ u) (slacks.other i k l j (λ e. s (sym e))) ∙ *ℚ-zero (y k))
    ∙ ap (λ u. y i *ℚ u) (slacks.same i l) ∙ *ℚ-one (y i)

module _ (size n r : ℕ) (column : ℕ → ℕ → ℚ) (side : ℕ → ℚ) (basis : ℕ → ℕ) (inv : ℕ → ℕ → ℚ) (x y : ℕ → ℚ)
    (slacks : HasSlacks size n column) (is : IsBasis size column side basis inv x) (l : r < size) (row : (k : ℕ) → k < size → y k ≡ inv k r) where
  dot_row : (a : ℕ → ℚ) → dot y a size ≡ dot (λ k. inv k r) a size
  dot_row a = sum_ℚ-same (λ k. y k *ℚ a k) (λ k. inv k r *ℚ a k) size (λ k j. ap (λ u. u *ℚ a k) (row k j))

  -- y times the sides is the value at the place
  pub row_value : dot y side size ≡ x r
  row_value = dual_value size size r y x side (λ p. column (basis p)) l (dot_row (column (basis r)) ∙ is.left.same r l)
      (λ p j s. dot_row (column (basis p)) ∙ is.left.other r p l j (λ e. s (sym e))) is.point

  -- y at a row whose slack stands in the basis
  pub row_at_slack : (p i : ℕ) → p < size → i < size → basis p ≡ n + i → p ≢ r → y i ≡ zero_ℚ
  row_at_slack p i j h e s = sym (dot_slack size n i column y slacks h) ∙ ap (λ v. dot y (column v) size) (sym e) ∙ dot_row (column (basis p)) ∙ is.left.other r p l j (λ q. s (sym q))

  pub row_at_own : (i : ℕ) → i < size → basis r ≡ n + i → y i ≡ one_ℚ
  row_at_own i h e = sym (dot_slack size n i column y slacks h) ∙ ap (λ v. dot y (column v) size) (sym e) ∙ dot_row (column (basis r)) ∙ is.left.same r l

  -- the sign of y at a row: it prices right, or its slack stands in the basis
  pub row_sign : (up : Bool) (i : ℕ) → i < size → ((Helps up (dot y (column (n + i)) size) → ⊥) ⊎ ((basis i ≡ n + i) × ((i ≢ r) ⊎ (up ≡ true)))) → zero_ℚ ≤ℚ signed up (y i)
  row_sign up i h (inl extreme) = subst (λ q. zero_ℚ ≤ℚ signed up q) (dot_slack size n i column y slacks h) (not_helps up (dot y (column (n + i)) size) extreme)
  row_sign up i h (inr at_own_place) =
      let zero_there : i ≢ r → zero_ℚ ≤ℚ signed up (y i) = λ s. subst (λ q. zero_ℚ ≤ℚ q) (sym (ap (signed up) (row_at_slack i i h h at_own_place.0 s) ∙ signed-zero up)) (≤ℚ_refl zero_ℚ) in
      elim at_own_place.1 [
        | inl s ↦ zero_there s
        | inr e ↦
            let go : Dec (i ≡ r) → zero_ℚ ≤ℚ signed up (y i) = elim [
              | yes same ↦
                  let one : y i ≡ one_ℚ = row_at_own i h (ap basis (sym same) ∙ at_own_place.0) in
                  subst (λ u. zero_ℚ ≤ℚ signed u (y i)) (sym e) (subst (λ q. zero_ℚ ≤ℚ q) (sym one) (<ℚ-≤ℚ zero_ℚ one_ℚ zero-<ℚ-one))
              | no s ↦ zero_there s
            ] in
            go (ℕ_discrete i r)
      ]

-- ---- the point
-- a + s is b and s is not negative
pub below_side : (a s b : ℚ) → a +ℚ s ≡ b → zero_ℚ ≤ℚ s → a ≤ℚ b
below_side a s b e h = subst (λ u. a ≤ℚ u) e (subst (λ u. u ≤ℚ a +ℚ s) (zero-+ℚ a) (subst (λ u. zero_ℚ +ℚ a ≤ℚ u) (+ℚ_comm s a) (+ℚ-≤ℚ zero_ℚ s a h)))

pub meets_side : (a s b : ℚ) → a +ℚ s ≡ b → s ≡ zero_ℚ → a ≡ b
meets_side a s b e z = sym (+ℚ-zero a) ∙ ap (λ u. a +ℚ u) (sym z) ∙ e

-- the gain is what the slack of its row is: the row of the gain has the opposites of the gains, and side 0
pub gain_is : (n : ℕ) (X gain opposite : ℕ → ℚ) (s : ℚ) → ((j : ℕ) → j < n → opposite j ≡ neg_ℚ (gain j)) → sum_ℚ (λ j. X j *ℚ opposite j) n +ℚ s ≡ zero_ℚ → sum_ℚ (λ j. X j *ℚ gain j) n ≡ s
gain_is n X gain opposite s turned e =
    let total = sum_ℚ (λ j. X j *ℚ gain j) n in
    let back : sum_ℚ (λ j. X j *ℚ opposite j) n ≡ neg_ℚ total
    = sum_ℚ-same (λ j. X j *ℚ opposite j) (λ j. neg_ℚ one_ℚ *ℚ (X j *ℚ gain j)) n
    (λ j l. ap (λ u. X j *ℚ u) (turned j l) ∙ times-neg (X j) (gain j) ∙ sym (neg-*ℚ one_ℚ (X j *ℚ gain j) ∙ ap neg_ℚ (one-*ℚ (X j *ℚ gain j))))
    ∙ sum_ℚ-scale (neg_ℚ one_ℚ) (λ j. X j *ℚ gain j) n ∙ neg-*ℚ one_ℚ total ∙ ap neg_ℚ (one-*ℚ total) in
    sym (+ℚ-zero total) ∙ ap (λ u. total +ℚ u) (sym e ∙ ap (λ u. u +ℚ s) back) ∙ sym (+ℚ_assoc total (neg_ℚ total) s) ∙ ap (λ u. u +ℚ s) (+ℚ-neg total) ∙ zero-+ℚ s
