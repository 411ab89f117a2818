-- The tableau as functions, and one pivot of it.
use Rattle.std.proofs.Common.{ℕ, ◌≡◌, ◌≢◌, ◌<◌, ◌≤◌, ◌^◌, List, length, get_or}
use Rattle.exact_num.specs.Q.{ℚ}
use Rattle.exact_num.specs.Ops.{neg_ℚ, inv_ℚ, ◌*ℚ◌}
use Rattle.simplex_tableau.specs.declared.sparse.Entry.{Entry}
use Rattle.simplex_tableau.specs.declared.basis.Tableau.{Tableau}
use Rattle.simplex_tableau.specs.Sparse.{at, Rises}
use Rattle.simplex_tableau.specs.Dense.{num}
use Rattle.simplex_tableau.specs.Inverse.{inv_of, AllRise}
use Rattle.simplex_tableau.specs.Pivot.{IsPivoted}

abbrev pub basis_of : {N : Type 0} → Tableau N → ℕ → ℕ
basis_of t p = get_or t.basis.items p 0

abbrev pub inverse_of : {N : Type 0} → (N → ℚ) → Tableau N → ℕ → ℕ → ℚ
inverse_of value t k p = inv_of value t.inverse.items k p

abbrev pub point_of : {N : Type 0} → (N → ℚ) → Tableau N → ℕ → ℚ
point_of value t p = num value t.point.items p

pub record HasShape {N : Type 0} (size : ℕ) (t : Tableau N) : Type 0 where
  pub few : size ≤ 2 ^ 32
  pub basis_length : length t.basis.items ≡ size
  pub inverse_length : length t.inverse.items ≡ size
  pub point_length : length t.point.items ≡ size
  pub tie_length : length t.tie.items ≡ size
  pub rises : AllRise size t.inverse.items

-- what a pivot makes of the tableau; row: what each column of the inverse took of made
pub record PivotsTo {N : Type 0} (value : N → ℚ) (size place entering : ℕ) (made : List (Entry N)) (old new : Tableau N) (row : List (Entry N)) : Type 0 where
  pub shape : HasShape size new
  pub row_rises : Rises 0 size row
  pub turns : (k : ℕ) → k < size → IsPivoted size place (at value made) (inverse_of value old k) (inverse_of value new k) (neg_ℚ (at value row k))
  pub moves : IsPivoted size place (at value made) (point_of value old) (point_of value new) (point_of value old place *ℚ inv_ℚ (at value made place))
  pub enters : basis_of new place ≡ entering
  pub others : (p : ℕ) → p < size → p ≢ place → basis_of new p ≡ basis_of old p
