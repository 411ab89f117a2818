-- Laws of specs/Basis.
use Rattle.std.proofs.Common.{ℕ, ◌≡◌, ◌<◌, ◌≢◌, sym, ◌∙◌, ap, ap₂}
use Rattle.std.proofs.Math.Decide.{ℕ_discrete}
use Rattle.exact_num.specs.Q.{ℚ}
use Rattle.exact_num.specs.Ops.{zero_ℚ, one_ℚ, neg_ℚ, ◌+ℚ◌, ◌*ℚ◌, +ℚ_assoc, +ℚ_comm, +ℚ-zero, +ℚ-neg, *ℚ-+ℚ, *ℚ_comm, *ℚ-one, neg-*ℚ}
use Rattle.exact_num.specs.Sums.{sum_ℚ}
use Rattle.simplex_tableau.specs.Pivot.{IsPivoted, dot}
use Rattle.simplex_tableau.proofs.PivotLaws.{pivot_sums, pivot_inverse}
use Rattle.simplex_tableau.proofs.DualityLaws.{ftran_sums}
use Rattle.simplex_tableau.specs.Basis.{IsBasis}

module _ (size r v : ℕ) (column : ℕ → ℕ → ℚ) (side : ℕ → ℚ) (basis basis' : ℕ → ℕ) (inv inv' : ℕ → ℕ → ℚ) (x x' d s : ℕ → ℚ) (t : ℚ)
    (l : r < size) (some : d r ≢ zero_ℚ)
    (ftran : (p : ℕ) → p < size → dot (λ k. inv k p) (column v) size ≡ d p)
    (turns : (k : ℕ) → k < size → IsPivoted size r d (inv k) (inv' k) (s k))
    (moves : IsPivoted size r d x x' t)
    (enters : basis' r ≡ v) (others : (p : ℕ) → p < size → p ≢ r → basis' p ≡ basis p) where
  pub pivot_keeps : IsBasis size column side basis inv x → IsBasis size column side basis' inv' x'
  pivot_keeps was =
      let made : (i : ℕ) → i < size → sum_ℚ (λ p. d p *ℚ column (basis p) i) size ≡ column v i
      = ftran_sums size size inv (λ p. column (basis p)) d (column v) was.right ftran in
      let at_r : column (basis' r) ≡ column v = ap column enters in
      let off : (q : ℕ) → q < size → q ≢ r → column (basis' q) ≡ column (basis q) = λ q j u. ap column (others q j u) in
      record {
        right = record {
          same = λ k j. pivot_sums size r d (inv k) (inv' k) (λ p. column (basis p) k) (λ p. column (basis' p) k) (s k) one_ℚ (column v k) l (turns k j) (ap (λ c. c k) at_r) (λ p i u. ap (λ c. c k) (off p i u)) (made k j) (was.right.same k j);
          other = λ k i j h u. pivot_sums size r d (inv k) (inv' k) (λ p. column (basis p) i) (λ p. column (basis' p) i) (s k) zero_ℚ (column v i) l (turns k j) (ap (λ c. c i) at_r) (λ p h' u'. ap (λ c. c i) (off p h' u')) (made i h) (was.right.other k i j h u);
        };
        left = pivot_inverse size size r inv inv' (λ p. column (basis p)) (λ p. column (basis' p)) d s (column v) l some ftran turns at_r off was.left;
        point = λ k j. pivot_sums size r d x x' (λ p. column (basis p) k) (λ p. column (basis' p) k) t (side k) (column v k) l moves (ap (λ c. c k) at_r) (λ p i u. ap (λ c. c k) (off p i u)) (made k j) (was.point k j);
      }

-- a vector less t times d', where d' is d less 1 at r
pub pivoted_by : (size r : ℕ) (d d' x x' : ℕ → ℚ) (t : ℚ) → r < size → d' r ≡ d r +ℚ neg_ℚ one_ℚ → ((p : ℕ) → p ≢ r → d' p ≡ d p)
    → t *ℚ d r ≡ x r → ((p : ℕ) → p < size → x' p ≡ x p +ℚ neg_ℚ t *ℚ d' p) → IsPivoted size r d x x' t
pivoted_by size r d d' x x' t l at_r off share moved = record {
  share = share;
  there = moved r l
      ∙ ap (λ u. x r +ℚ neg_ℚ t *ℚ u) at_r
      ∙ ap (λ u. x r +ℚ u) (*ℚ-+ℚ (neg_ℚ t) (d r) (neg_ℚ one_ℚ) ∙ ap₂ (λ u w. u +ℚ w) (neg-*ℚ t (d r) ∙ ap neg_ℚ share) (twice t))
      ∙ sym (+ℚ_assoc (x r) (neg_ℚ (x r)) t) ∙ ap (λ u. u +ℚ t) (+ℚ-neg (x r)) ∙ zero_first t;
  others = λ p i u. moved p i ∙ ap (λ y. x p +ℚ neg_ℚ t *ℚ y) (off p u);
}
  where
    zero_first : (a : ℚ) → zero_ℚ +ℚ a ≡ a
    zero_first a = +ℚ_comm zero_ℚ a ∙ +ℚ-zero a

    -- - (- a) is a
    back : (a : ℚ) → neg_ℚ (neg_ℚ a) ≡ a
    back a = sym (+ℚ-zero (neg_ℚ (neg_ℚ a))) ∙ ap (λ u. neg_ℚ (neg_ℚ a) +ℚ u) (sym (+ℚ_comm (neg_ℚ a) a ∙ +ℚ-neg a)) ∙ sym (+ℚ_assoc (neg_ℚ (neg_ℚ a)) (neg_ℚ a) a)
        ∙ ap (λ u. u +ℚ a) (+ℚ_comm (neg_ℚ (neg_ℚ a)) (neg_ℚ a) ∙ +ℚ-neg (neg_ℚ a)) ∙ zero_first a

    twice : (a : ℚ) → neg_ℚ a *ℚ neg_ℚ one_ℚ ≡ a
    twice a = neg-*ℚ a (neg_ℚ one_ℚ) ∙ ap neg_ℚ (*ℚ_comm a (neg_ℚ one_ℚ) ∙ neg-*ℚ one_ℚ a ∙ ap neg_ℚ (*ℚ_comm one_ℚ a ∙ *ℚ-one a)) ∙ back a

-- places hold different variables
pub one_place : (size : ℕ) (column : ℕ → ℕ → ℚ) (side : ℕ → ℚ) (basis : ℕ → ℕ) (inv : ℕ → ℕ → ℚ) (x : ℕ → ℚ) → one_ℚ ≢ zero_ℚ → IsBasis size column side basis inv x
    → (p q : ℕ) → p < size → q < size → basis p ≡ basis q → p ≡ q
one_place size column side basis inv x apart is p q l k e =
    let go : Dec (p ≡ q) → p ≡ q = elim [
      | yes same ↦ same
      | no differs ↦ absurd (apart (sym (is.left.same p l) ∙ ap (λ v. dot (λ k. inv k p) (column v) size) e ∙ is.left.other p q l k differs))
    ] in
    go (ℕ_discrete p q)
