-- Laws of specs/Point.
use Rattle.std.proofs.Common.{ℕ, ◌≡◌, ◌+◌, ◌<◌, sym, ◌∙◌, ap, subst, zero, suc, add-suc, add-zero}
use Rattle.std.proofs.Math.Decide.{ℕ_discrete}
use Rattle.exact_num.specs.Q.{ℚ}
use Rattle.exact_num.specs.Ops.{zero_ℚ, ◌+ℚ◌, ◌*ℚ◌, +ℚ_assoc, +ℚ-zero, *ℚ_comm, *ℚ-zero, *ℚ-one}
use Rattle.exact_num.specs.Sums.{sum_ℚ, sum_ℚ-same, sum_ℚ-scale, sum_ℚ-zero, sum_ℚ-one, sum_ℚ-exchanged}
use Rattle.exact_num.specs.Order.{◌≤ℚ◌, ≤ℚ_refl, sum_ℚ-≤ℚ}
use Rattle.simplex_tableau.specs.Sparse.{at_place}
use Rattle.simplex_tableau.proofs.SparseLaws.{at_place-same, at_place-other}
use Rattle.exact_simplex.specs.Point.{HasSlacks, variable_value}

-- a sum over the places is a sum over the variables
pub sum_variable_value : (size variables : ℕ) (basis : ℕ → ℕ) (x f : ℕ → ℚ) → ((p : ℕ) → p < size → basis p < variables)
    → sum_ℚ (λ v. variable_value basis x size v *ℚ f v) variables ≡ sum_ℚ (λ p. x p *ℚ f (basis p)) size
sum_variable_value size variables basis x f within =
    sum_ℚ-same (λ v. variable_value basis x size v *ℚ f v) (λ v. sum_ℚ (λ p. f v *ℚ at_place (basis p) (x p) v) size) variables
    (λ v l. *ℚ_comm (variable_value basis x size v) (f v) ∙ sym (sum_ℚ-scale (f v) (λ p. at_place (basis p) (x p) v) size))
    ∙ sum_ℚ-exchanged (λ v p. f v *ℚ at_place (basis p) (x p) v) variables size
    ∙ sum_ℚ-same (λ p. sum_ℚ (λ v. f v *ℚ at_place (basis p) (x p) v) variables) (λ p. x p *ℚ f (basis p)) size
    (λ p l.
    sum_ℚ-one (λ v. f v *ℚ at_place (basis p) (x p) v) (basis p) variables (within p l)
    (λ v _ s. ap (λ u. f v *ℚ u) (at_place-other (basis p) v (x p) (λ e. s (sym e))) ∙ *ℚ-zero (f v))
    ∙ ap (λ u. f (basis p) *ℚ u) (at_place-same (basis p) (x p)) ∙ *ℚ_comm (f (basis p)) (x p))

-- a sum over n and then m more
pub sum-split : (f : ℕ → ℚ) (n m : ℕ) → sum_ℚ f (n + m) ≡ sum_ℚ f n +ℚ sum_ℚ (λ i. f (n + i)) m
sum-split f n zero = ap (sum_ℚ f) (add-zero n) ∙ sym (+ℚ-zero (sum_ℚ f n))
sum-split f n (suc m) =
    ap (sum_ℚ f) (add-suc n m) ∙ ap (λ a. a +ℚ f (n + m)) (sum-split f n m) ∙ +ℚ_assoc (sum_ℚ f n) (sum_ℚ (λ i. f (n + i)) m) (f (n + m))

-- row k of the point: the columns' part, and its slack
pub row_of_point : (size n k : ℕ) (column : ℕ → ℕ → ℚ) (basis : ℕ → ℕ) (x : ℕ → ℚ) (side : ℚ) → HasSlacks size n column → k < size
    → ((p : ℕ) → p < size → basis p < n + size) → sum_ℚ (λ p. x p *ℚ column (basis p) k) size ≡ side
    → sum_ℚ (λ j. variable_value basis x size j *ℚ column j k) n +ℚ variable_value basis x size (n + k) ≡ side
row_of_point size n k column basis x side slacks l within row =
    let X = variable_value basis x size in
    let last : sum_ℚ (λ i. X (n + i) *ℚ column (n + i) k) size ≡ X (n + k)
    = sum_ℚ-one (λ i. X (n + i) *ℚ column (n + i) k) k size l (λ i j s. ap (λ u. X (n + i) *ℚ u) (slacks.other i k j l s) ∙ *ℚ-zero (X (n + i)))
    ∙ ap (λ u. X (n + k) *ℚ u) (slacks.same k l) ∙ *ℚ-one (X (n + k)) in
    ap (λ u. sum_ℚ (λ j. X j *ℚ column j k) n +ℚ u) (sym last) ∙ sym (sum-split (λ v. X v *ℚ column v k) n size)
    ∙ sum_variable_value size (n + size) basis x (λ v. column v k) within ∙ row

-- ---- signs
pub variable_value-nonneg : (size v : ℕ) (basis : ℕ → ℕ) (x : ℕ → ℚ) → ((p : ℕ) → p < size → basis p ≡ v → zero_ℚ ≤ℚ x p) → zero_ℚ ≤ℚ variable_value basis x size v
variable_value-nonneg size v basis x h =
    subst (λ u. u ≤ℚ variable_value basis x size v) (sum_ℚ-zero size)
    (sum_ℚ-≤ℚ (λ _. zero_ℚ) (λ p. at_place (basis p) (x p) v) size (λ p l.
    let go : Dec (basis p ≡ v) → zero_ℚ ≤ℚ at_place (basis p) (x p) v = elim [
      | yes e ↦ subst (λ u. zero_ℚ ≤ℚ u) (sym (ap (at_place (basis p) (x p)) (sym e) ∙ at_place-same (basis p) (x p))) (h p l e)
      | no ne ↦ subst (λ u. zero_ℚ ≤ℚ u) (sym (at_place-other (basis p) v (x p) ne)) (≤ℚ_refl zero_ℚ)
    ] in
    go (ℕ_discrete (basis p) v)))

pub variable_value-zero : (size v : ℕ) (basis : ℕ → ℕ) (x : ℕ → ℚ) → ((p : ℕ) → p < size → basis p ≡ v → x p ≡ zero_ℚ) → variable_value basis x size v ≡ zero_ℚ
variable_value-zero size v basis x h =
    sum_ℚ-same (λ p. at_place (basis p) (x p) v) (λ _. zero_ℚ) size (λ p l.
    let go : Dec (basis p ≡ v) → at_place (basis p) (x p) v ≡ zero_ℚ = elim [
      | yes e ↦ ap (at_place (basis p) (x p)) (sym e) ∙ at_place-same (basis p) (x p) ∙ h p l e
      | no ne ↦ at_place-other (basis p) v (x p) ne
    ] in
    go (ℕ_discrete (basis p) v)) ∙ sum_ℚ-zero size

-- a variable that stands at one place
pub variable_value-one : (size v r : ℕ) (basis : ℕ → ℕ) (x : ℕ → ℚ) → r < size → basis r ≡ v → ((p : ℕ) → p < size → basis p ≡ v → p ≡ r) → variable_value basis x size v ≡ x r
variable_value-one size v r basis x l here only_place =
    sum_ℚ-one (λ p. at_place (basis p) (x p) v) r size l (λ p j s. at_place-other (basis p) v (x p) (λ e. s (only_place p j e)))
    ∙ ap (at_place (basis r) (x r)) (sym here) ∙ at_place-same (basis r) (x r)
