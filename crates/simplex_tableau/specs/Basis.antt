-- What a simplex keeps of its basis: the inverse, both ways, and the point.
use Rattle.std.proofs.Common.{ℕ, ◌≡◌, ◌<◌}
use Rattle.exact_num.specs.Q.{ℚ}
use Rattle.exact_num.specs.Ops.{◌*ℚ◌}
use Rattle.exact_num.specs.Sums.{sum_ℚ}
use Rattle.simplex_tableau.specs.Pivot.{IsLeftInverse}
use Rattle.simplex_tableau.specs.Duality.{IsRightInverse}

-- size: the number of rows; column v k: the number of variable v at row k; basis p: the variable at place p;
-- inv k p: place p of column k of the inverse; x p: the value at place p
pub record IsBasis (size : ℕ) (column : ℕ → ℕ → ℚ) (side : ℕ → ℚ) (basis : ℕ → ℕ) (inv : ℕ → ℕ → ℚ) (x : ℕ → ℚ) : Type 0 where
  pub right : IsRightInverse size size inv (λ p. column (basis p))
  pub left : IsLeftInverse size size inv (λ p. column (basis p))
  pub point : (k : ℕ) → k < size → sum_ℚ (λ p. x p *ℚ column (basis p) k) size ≡ side k
