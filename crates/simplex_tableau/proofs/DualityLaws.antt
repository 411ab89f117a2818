-- Laws of specs/Duality.
use Rattle.std.proofs.Common.{ℕ, ◌≡◌, ◌<◌, sym, ◌∙◌, ap, ◌≢◌, subst}
use Rattle.exact_num.specs.Q.{ℚ}
use Rattle.exact_num.specs.Ops.{zero_ℚ, neg_ℚ, ◌+ℚ◌, ◌*ℚ◌, *ℚ_assoc, *ℚ_comm, *ℚ-zero, zero-*ℚ, neg-*ℚ, inv_ℚ, *ℚ-inv, *ℚ-one}
use Rattle.exact_num.specs.Sums.{sum_ℚ, sum_ℚ-same, sum_ℚ-scale, sum_ℚ-exchanged, sum_ℚ-one}
use Rattle.exact_num.specs.Order.{◌≤ℚ◌, ≤ℚ_trans, *ℚ-≤ℚ, to_difference}
use Rattle.simplex_tableau.specs.Pivot.{dot}
use Rattle.simplex_tableau.specs.Duality.{IsRightInverse}

-- (y A) x = y (A x), for any two sizes
pub sides_meet : (m n : ℕ) (y x : ℕ → ℚ) (a : ℕ → ℕ → ℚ) → sum_ℚ (λ j. x j *ℚ dot y (a j) m) n ≡ sum_ℚ (λ k. y k *ℚ sum_ℚ (λ j. x j *ℚ a j k) n) m
sides_meet m n y x a =
    sum_ℚ-same (λ j. x j *ℚ dot y (a j) m) (λ j. sum_ℚ (λ k. x j *ℚ (y k *ℚ a j k)) m) n (λ j l. sym (sum_ℚ-scale (x j) (λ k. y k *ℚ a j k) m))
    ∙ sum_ℚ-exchanged (λ j k. x j *ℚ (y k *ℚ a j k)) n m
    ∙ sum_ℚ-same (λ k. sum_ℚ (λ j. x j *ℚ (y k *ℚ a j k)) n) (λ k. y k *ℚ sum_ℚ (λ j. x j *ℚ a j k) n) m
    (λ k l. sum_ℚ-same (λ j. x j *ℚ (y k *ℚ a j k)) (λ j. y k *ℚ (x j *ℚ a j k)) n
    (λ j i. sym (*ℚ_assoc (x j) (y k) (a j k)) ∙ ap (λ u. u *ℚ a j k) (*ℚ_comm (x j) (y k)) ∙ *ℚ_assoc (y k) (x j) (a j k))
    ∙ sum_ℚ-scale (y k) (λ j. x j *ℚ a j k) n)

-- the ratio test: t is at most x p / d p, or d p is not positive
pub ratio_keeps : (x d t : ℚ) → zero_ℚ ≤ℚ x → t *ℚ d ≤ℚ x → zero_ℚ ≤ℚ x +ℚ neg_ℚ t *ℚ d
ratio_keeps x d t p h = subst (λ u. zero_ℚ ≤ℚ x +ℚ u) (sym (neg-*ℚ t d)) (to_difference (t *ℚ d) x h)

-- a step that is at most x / d for a positive d
pub ratio_least : (x d t : ℚ) → zero_ℚ ≤ℚ d → d ≢ zero_ℚ → t ≤ℚ x *ℚ inv_ℚ d → t *ℚ d ≤ℚ x
ratio_least x d t p s h =
    subst (λ u. t *ℚ d ≤ℚ u) (*ℚ_assoc x (inv_ℚ d) d ∙ ap (λ u. x *ℚ u) (*ℚ_comm (inv_ℚ d) d ∙ *ℚ-inv d s) ∙ *ℚ-one x) (*ℚ-≤ℚ t (x *ℚ inv_ℚ d) d h p)

-- where d is at most 0 a step that isn't negative does no harm
pub ratio_free : (x d t : ℚ) → zero_ℚ ≤ℚ x → d ≤ℚ zero_ℚ → zero_ℚ ≤ℚ t → t *ℚ d ≤ℚ x
ratio_free x d t p h k =
    ≤ℚ_trans (t *ℚ d) zero_ℚ x
    (subst (λ u. u ≤ℚ zero_ℚ) (*ℚ_comm d t) (subst (λ u. d *ℚ t ≤ℚ u) (zero-*ℚ t) (*ℚ-≤ℚ d zero_ℚ t h k))) p

-- the inverse times a column gives the numbers that make the column from the basis
pub ftran_sums : (m n : ℕ) (inv col : ℕ → ℕ → ℚ) (d w : ℕ → ℚ) → IsRightInverse m n inv col → ((p : ℕ) → p < n → dot (λ k. inv k p) w m ≡ d p)
    → (i : ℕ) → i < m → sum_ℚ (λ p. d p *ℚ col p i) n ≡ w i
ftran_sums m n inv col d w is made i l =
    let turned : (p : ℕ) → p < n → d p *ℚ col p i ≡ col p i *ℚ dot w (λ k. inv k p) m = λ p j.
    *ℚ_comm (d p) (col p i) ∙ ap (λ u. col p i *ℚ u) (sym (made p j) ∙ sum_ℚ-same (λ k. inv k p *ℚ w k) (λ k. w k *ℚ inv k p) m (λ k _. *ℚ_comm (inv k p) (w k))) in
    let inner : (k : ℕ) → sum_ℚ (λ p. col p i *ℚ inv k p) n ≡ sum_ℚ (λ p. inv k p *ℚ col p i) n = λ k.
    sum_ℚ-same (λ p. col p i *ℚ inv k p) (λ p. inv k p *ℚ col p i) n (λ p _. *ℚ_comm (col p i) (inv k p)) in
    sum_ℚ-same (λ p. d p *ℚ col p i) (λ p. col p i *ℚ dot w (λ k. inv k p) m) n turned
    ∙ sides_meet m n w (λ p. col p i) (λ p k. inv k p)
    ∙ sum_ℚ-one (λ k. w k *ℚ sum_ℚ (λ p. col p i *ℚ inv k p) n) i m l
    (λ k j s. ap (λ u. w k *ℚ u) (inner k ∙ is.other k i j l s) ∙ *ℚ-zero (w k))
    ∙ ap (λ u. w i *ℚ u) (inner i ∙ is.same i l) ∙ *ℚ-one (w i)
