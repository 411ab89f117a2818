-- The values of the columns at a basis.
use Rattle.std.specs.Prelude.{ℕ, ◌≡◌, ◌<◌, List, length}
use Rattle.std.proofs.Common.{get_or}
use Rattle.exact_num.specs.Q.{ℚ}
use Rattle.exact_num.specs.Ops.{◌+ℚ◌}
use Rattle.simplex_tableau.specs.Dense.{num}
use Rattle.exact_simplex.specs.Point.{variable_value}
use Rattle.simplex_tableau.specs.Sparse.{at_place}

-- a number was added to the value of a variable, where that is one of the columns
pub record AddsValue {N : Type 0} (value : N → ℚ) (old : List N) (variable : ℕ) (x : ℚ) (new : List N) : Type 0 where
  pub sums : (v : ℕ) → v < length old → num value new v ≡ num value old v +ℚ at_place variable x v

-- the values that the first numbers give
pub record AreValuesTo {N : Type 0} (value : N → ℚ) (columns : ℕ) (variables : List ℕ) (numbers : List N) (count : ℕ) (values : List N) : Type 0 where
  pub one_each : length values ≡ columns
  pub same : (v : ℕ) → v < columns → num value values v ≡ variable_value (λ p. get_or variables p 0) (num value numbers) count v

abbrev pub AreValues : {N : Type 0} → (N → ℚ) → ℕ → List ℕ → List N → List N → Type 0
AreValues value columns variables numbers values = AreValuesTo value columns variables numbers (length variables) values
