-- Laws of specs/Pivot.
use Rattle.std.proofs.Common.{ℕ, ◌≡◌, ◌<◌, sym, ◌∙◌, ap, ap₂, ◌≢◌}
use Rattle.std.proofs.Math.Decide.{ℕ_discrete}
use Rattle.exact_num.specs.Q.{ℚ}
use Rattle.exact_num.specs.Ops.{zero_ℚ, one_ℚ, neg_ℚ, ◌+ℚ◌, ◌*ℚ◌, +ℚ_assoc, +ℚ_comm, +ℚ-zero, +ℚ-neg, +ℚ-*ℚ, *ℚ_assoc, *ℚ_comm, *ℚ-zero, zero-*ℚ, neg-*ℚ, neg-swap, *ℚ_cancel, one-*ℚ, *ℚ-one}
use Rattle.exact_num.specs.Sums.{sum_ℚ, sum_ℚ-same, sum_ℚ-add, sum_ℚ-scale, sum_ℚ-replaced, sum_ℚ-one, sum_ℚ-exchanged}
use Rattle.simplex_tableau.specs.Pivot.{IsLeftInverse, IsPivoted, dot}

-- a sum over the places with the columns there passes a pivot
pub pivot_sums : (n r : ℕ) (d x x' c c' : ℕ → ℚ) (t v w : ℚ) → r < n → IsPivoted n r d x x' t
    → c' r ≡ w → ((p : ℕ) → p < n → p ≢ r → c' p ≡ c p)
    → sum_ℚ (λ p. d p *ℚ c p) n ≡ w → sum_ℚ (λ p. x p *ℚ c p) n ≡ v → sum_ℚ (λ p. x' p *ℚ c' p) n ≡ v
pivot_sums n r d x x' c c' t v w l is at_r off ftran was =
    let f : ℕ → ℚ = λ p. (x p +ℚ neg_ℚ t *ℚ d p) *ℚ c p in
    let g : ℕ → ℚ = λ p. x' p *ℚ c' p in
    let swapped : sum_ℚ g n +ℚ f r ≡ sum_ℚ f n +ℚ g r = sum_ℚ-replaced f g r n l (λ p k s. ap₂ (λ y z. y *ℚ z) (is.others p k s) (off p k s)) in
    let gone : f r ≡ zero_ℚ = ap (λ y. (x r +ℚ y) *ℚ c r) (neg-*ℚ t (d r) ∙ ap neg_ℚ is.share) ∙ ap (λ y. y *ℚ c r) (+ℚ-neg (x r)) ∙ zero-*ℚ (c r) in
    let split : sum_ℚ f n ≡ v +ℚ neg_ℚ t *ℚ w =
    sum_ℚ-same f (λ p. x p *ℚ c p +ℚ neg_ℚ t *ℚ (d p *ℚ c p)) n (λ p k. +ℚ-*ℚ (x p) (neg_ℚ t *ℚ d p) (c p) ∙ ap (λ y. x p *ℚ c p +ℚ y) (*ℚ_assoc (neg_ℚ t) (d p) (c p)))
    ∙ sum_ℚ-add (λ p. x p *ℚ c p) (λ p. neg_ℚ t *ℚ (d p *ℚ c p)) n
    ∙ ap₂ (λ y z. y +ℚ z) was (sum_ℚ-scale (neg_ℚ t) (λ p. d p *ℚ c p) n ∙ ap (λ y. neg_ℚ t *ℚ y) ftran) in
    let new_r : g r ≡ t *ℚ w = ap₂ (λ y z. y *ℚ z) is.there at_r in
    sym (+ℚ-zero (sum_ℚ g n)) ∙ ap (λ y. sum_ℚ g n +ℚ y) (sym gone) ∙ swapped ∙ ap₂ (λ y z. y +ℚ z) split new_r
    ∙ +ℚ_assoc v (neg_ℚ t *ℚ w) (t *ℚ w) ∙ ap (λ y. v +ℚ (y +ℚ t *ℚ w)) (neg-*ℚ t w) ∙ ap (λ y. v +ℚ y) (+ℚ_comm (neg_ℚ (t *ℚ w)) (t *ℚ w) ∙ +ℚ-neg (t *ℚ w)) ∙ +ℚ-zero v

-- the row p after the pivot: row p less d p times the new row r
pub dot-less : (m : ℕ) (y z y' a : ℕ → ℚ) (c : ℚ) → ((k : ℕ) → k < m → y' k ≡ y k +ℚ neg_ℚ c *ℚ z k) → dot y' a m ≡ dot y a m +ℚ neg_ℚ c *ℚ dot z a m
dot-less m y z y' a c h =
    sum_ℚ-same (λ k. y' k *ℚ a k) (λ k. y k *ℚ a k +ℚ neg_ℚ c *ℚ (z k *ℚ a k)) m
    (λ k l. ap (λ u. u *ℚ a k) (h k l) ∙ +ℚ-*ℚ (y k) (neg_ℚ c *ℚ z k) (a k) ∙ ap (λ u. y k *ℚ a k +ℚ u) (*ℚ_assoc (neg_ℚ c) (z k) (a k)))
    ∙ sum_ℚ-add (λ k. y k *ℚ a k) (λ k. neg_ℚ c *ℚ (z k *ℚ a k)) m
    ∙ ap (λ u. dot y a m +ℚ u) (sum_ℚ-scale (neg_ℚ c) (λ k. z k *ℚ a k) m)

-- y * b is the value at place r
pub dual_value : (m n r : ℕ) (y x b : ℕ → ℚ) (col : ℕ → ℕ → ℚ) → r < n
    → dot y (col r) m ≡ one_ℚ → ((p : ℕ) → p < n → p ≢ r → dot y (col p) m ≡ zero_ℚ)
    → ((k : ℕ) → k < m → sum_ℚ (λ p. x p *ℚ col p k) n ≡ b k) → dot y b m ≡ x r
dual_value m n r y x b col l one off b3 =
    sum_ℚ-same (λ k. y k *ℚ b k) (λ k. sum_ℚ (λ p. x p *ℚ (y k *ℚ col p k)) n) m
    (λ k j. ap (λ u. y k *ℚ u) (sym (b3 k j)) ∙ sym (sum_ℚ-scale (y k) (λ p. x p *ℚ col p k) n)
    ∙ sum_ℚ-same (λ p. y k *ℚ (x p *ℚ col p k)) (λ p. x p *ℚ (y k *ℚ col p k)) n
    (λ p i. sym (*ℚ_assoc (y k) (x p) (col p k)) ∙ ap (λ u. u *ℚ col p k) (*ℚ_comm (y k) (x p)) ∙ *ℚ_assoc (x p) (y k) (col p k)))
    ∙ sum_ℚ-exchanged (λ k p. x p *ℚ (y k *ℚ col p k)) m n
    ∙ sum_ℚ-same (λ p. sum_ℚ (λ k. x p *ℚ (y k *ℚ col p k)) m) (λ p. x p *ℚ dot y (col p) m) n (λ p i. sum_ℚ-scale (x p) (λ k. y k *ℚ col p k) m)
    ∙ sum_ℚ-one (λ p. x p *ℚ dot y (col p) m) r n l (λ p i s. ap (λ u. x p *ℚ u) (off p i s) ∙ *ℚ-zero (x p))
    ∙ ap (λ u. x r *ℚ u) one ∙ *ℚ-one (x r)

module _ (m n r : ℕ) (inv inv' col col' : ℕ → ℕ → ℚ) (d t w : ℕ → ℚ) (l : r < n) (some : d r ≢ zero_ℚ)
    (ftran : (p : ℕ) → p < n → dot (λ k. inv k p) w m ≡ d p)
    (is : (k : ℕ) → k < m → IsPivoted n r d (inv k) (inv' k) (t k))
    (at_r : col' r ≡ w) (off : (q : ℕ) → q < n → q ≢ r → col' q ≡ col q) where
  new_r : (a : ℕ → ℚ) → dot (λ k. inv' k r) a m ≡ dot t a m
  new_r a = sum_ℚ-same (λ k. inv' k r *ℚ a k) (λ k. t k *ℚ a k) m (λ k j. ap (λ u. u *ℚ a k) (is k j).there)

  new_p : (p : ℕ) (a : ℕ → ℚ) → p < n → p ≢ r → dot (λ k. inv' k p) a m ≡ dot (λ k. inv k p) a m +ℚ neg_ℚ (d p) *ℚ dot t a m
  new_p p a i s = dot-less m (λ k. inv k p) t (λ k. inv' k p) a (d p) (λ k j. (is k j).others p i s ∙ ap (λ u. inv k p +ℚ u) (neg-swap (t k) (d p)))

  shares : (a : ℕ → ℚ) → dot t a m *ℚ d r ≡ dot (λ k. inv k r) a m
  shares a =
      *ℚ_comm (dot t a m) (d r) ∙ sym (sum_ℚ-scale (d r) (λ k. t k *ℚ a k) m)
      ∙ sum_ℚ-same (λ k. d r *ℚ (t k *ℚ a k)) (λ k. inv k r *ℚ a k) m
      (λ k j. sym (*ℚ_assoc (d r) (t k) (a k)) ∙ ap (λ u. u *ℚ a k) (*ℚ_comm (d r) (t k) ∙ (is k j).share))

  one_there : dot t w m ≡ one_ℚ
  one_there = *ℚ_cancel (dot t w m) one_ℚ (d r) some (shares w ∙ ftran r l ∙ sym (one-*ℚ (d r)))

  none_elsewhere : IsLeftInverse m n inv col → (q : ℕ) → q < n → q ≢ r → dot t (col q) m ≡ zero_ℚ
  none_elsewhere was q i s = *ℚ_cancel (dot t (col q) m) zero_ℚ (d r) some (shares (col q) ∙ was.other r q l i (λ e. s (sym e)) ∙ sym (zero-*ℚ (d r)))

  -- a row other than r keeps its product with a column other than r's, and gets 0 with the new one
  kept : IsLeftInverse m n inv col → (p q : ℕ) → p < n → q < n → p ≢ r → q ≢ r → dot (λ k. inv' k p) (col' q) m ≡ dot (λ k. inv k p) (col q) m
  kept was p q i j s u =
      ap (λ a. dot (λ k. inv' k p) a m) (off q j u) ∙ new_p p (col q) i s
      ∙ ap (λ x. dot (λ k. inv k p) (col q) m +ℚ neg_ℚ (d p) *ℚ x) (none_elsewhere was q j u)
      ∙ ap (λ x. dot (λ k. inv k p) (col q) m +ℚ x) (*ℚ-zero (neg_ℚ (d p))) ∙ +ℚ-zero (dot (λ k. inv k p) (col q) m)

  cleared : (p : ℕ) → p < n → p ≢ r → dot (λ k. inv' k p) (col' r) m ≡ zero_ℚ
  cleared p i s =
      ap (λ a. dot (λ k. inv' k p) a m) at_r ∙ new_p p w i s
      ∙ ap₂ (λ x y. x +ℚ neg_ℚ (d p) *ℚ y) (ftran p i) one_there ∙ ap (λ x. d p +ℚ x) (*ℚ-one (neg_ℚ (d p))) ∙ +ℚ-neg (d p)

  pub pivot_inverse : IsLeftInverse m n inv col → IsLeftInverse m n inv' col'
  pivot_inverse was = record {
    same = λ p i.
        let go : Dec (p ≡ r) → dot (λ k. inv' k p) (col' p) m ≡ one_ℚ = elim [
          | yes e ↦ ap (λ u. dot (λ k. inv' k u) (col' u) m) e ∙ new_r (col' r) ∙ ap (λ a. dot t a m) at_r ∙ one_there
          | no s ↦ kept was p p i i s s ∙ was.same p i
        ] in
        go (ℕ_discrete p r);
    other = λ p q i j s.
        let at_p : Dec (p ≡ r) → Dec (q ≡ r) → dot (λ k. inv' k p) (col' q) m ≡ zero_ℚ = λ x y. elim x as (λ _. dot (λ k. inv' k p) (col' q) m ≡ zero_ℚ) [
          | yes e ↦
              let u : q ≢ r = λ f. s (e ∙ sym f) in
              ap (λ v. dot (λ k. inv' k v) (col' q) m) e ∙ new_r (col' q) ∙ ap (λ a. dot t a m) (off q j u) ∙ none_elsewhere was q j u
          | no v ↦ elim y as (λ _. dot (λ k. inv' k p) (col' q) m ≡ zero_ℚ) [
            | yes f ↦ ap (λ z. dot (λ k. inv' k p) (col' z) m) f ∙ cleared p i v
            | no u ↦ kept was p q i j v u ∙ was.other p q i j s
          ]
        ] in
        at_p (ℕ_discrete p r) (ℕ_discrete q r);
  }
