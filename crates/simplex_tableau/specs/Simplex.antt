-- What a pivot keeps of the values at the places.
use Rattle.std.proofs.Common.{ℕ, ◌≡◌, ◌+◌, ◌<◌, List, get_or}
use Rattle.exact_num.specs.Q.{ℚ}
use Rattle.exact_num.specs.Ops.{inv_ℚ, ◌*ℚ◌}
use Rattle.exact_num.specs.Order.{◌≤ℚ◌}
use Rattle.simplex_tableau.specs.States.{Okay, Limits, state_of}
use Rattle.simplex_tableau.specs.declared.state.RowState.{RowState}
use Rattle.simplex_tableau.specs.declared.state.RowState.TheVariants as state

-- the value at each place is as its variable's state asks, and the slack of a waiting row is at its own place
pub record IsFeasible (size n : ℕ) (states : List RowState) (basis : ℕ → ℕ) (x : ℕ → ℚ) : Type 0 where
  pub okay : (p : ℕ) → p < size → Okay (state_of n states (basis p)) (x p)
  pub own_place : (i : ℕ) → i < size → get_or states i state.Waiting ≡ state.Waiting → basis i ≡ n + i

-- the place at which a step along d comes to an end first
pub record Leaves (size n : ℕ) (states : List RowState) (basis : ℕ → ℕ) (x d : ℕ → ℚ) (place : ℕ) (step : ℚ) : Type 0 where
  pub below : place < size
  pub limits : Limits (state_of n states (basis place)) (d place)
  pub step_is : step ≡ x place *ℚ inv_ℚ (d place)
  pub least : (p : ℕ) → p < size → Limits (state_of n states (basis p)) (d p) → step ≤ℚ x p *ℚ inv_ℚ (d p)
