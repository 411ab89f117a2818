-- The search for the place that leaves.
use Rattle.std.proofs.Common.{ℕ, ◌≡◌, ◌<◌, ◌≤◌, ◌⊎◌, List, drop, Option, Some, None, Bool, true, false}
use Rattle.exact_num.specs.Q.{ℚ}
use Rattle.exact_num.specs.Ops.{inv_ℚ, ◌*ℚ◌}
use Rattle.exact_num.specs.Order.{◌≤ℚ◌}
use Rattle.simplex_tableau.specs.declared.sparse.Entry.{Entry}
use Rattle.simplex_tableau.specs.declared.basis.Tableau.{Tableau}
use Rattle.simplex_tableau.specs.declared.leave.Leaving.{Leaving}
use Rattle.simplex_tableau.specs.declared.state.RowState.{RowState}
use Rattle.simplex_tableau.specs.Sparse.{at, Rises}
use Rattle.simplex_tableau.specs.Tableau.{basis_of, point_of}
use Rattle.simplex_tableau.specs.States.{Limits, state_of}
use Rattle.simplex_tableau.specs.Simplex.{Leaves}

abbrev pub Before : ℚ → ℚ → Bool → Type 0
Before a b true = a ≤ℚ b
Before a b false = b ≤ℚ a

-- the state of what stands at a place
abbrev pub state_there : {N : Type 0} → ℕ → List RowState → Tableau N → ℕ → RowState
state_there n states t p = state_of n states (basis_of t p)

-- the length of a step along d that ends at a place
abbrev pub ratio : {N : Type 0} → (N → ℚ) → Tableau N → ℕ → ℚ → ℚ
ratio value t p d = point_of value t p *ℚ inv_ℚ d

abbrev pub BestWithin : {N : Type 0} → ℕ → Option (Leaving N) → Type 0
BestWithin size None = Unit {0}
BestWithin size (Some l) = l.place < size

abbrev pub StepWithin : {N : Type 0} → (N → ℚ) → ℚ → Option (Leaving N) → Type 0
StepWithin value step None = Unit {0}
StepWithin value step (Some b) = step ≤ℚ value b.step

pub record IsCandidate {N : Type 0} (value : N → ℚ) (n : ℕ) (states : List RowState) (t : Tableau N) (l : Leaving N) : Type 0 where
  pub limits : Limits (state_there n states t l.place) (value l.number)
  pub step_is : value l.step ≡ ratio value t l.place (value l.number)

-- what weighing one entry gives
pub record WeighsTo {N : Type 0} (value : N → ℚ) (n : ℕ) (states : List RowState) (t : Tableau N) (best : Option (Leaving N)) (e : Entry N) (l : Leaving N) : Type 0 where
  pub from : (best ≡ Some l) ⊎ ((l.place ≡ e.place) × (value l.number ≡ value e.number) × IsCandidate value n states t l)
  pub before : (b : Leaving N) → best ≡ Some b → value l.step ≤ℚ value b.step
  pub here : Limits (state_there n states t e.place) (value e.number) → value l.step ≤ℚ ratio value t e.place (value e.number)

abbrev pub Weighs : {N : Type 0} → (N → ℚ) → ℕ → List RowState → Tableau N → Option (Leaving N) → Entry N → Option (Leaving N) → Type 0
Weighs value n states t best e None = (best ≡ None) × (Limits (state_there n states t e.place) (value e.number) → ⊥)
Weighs value n states t best e (Some l) = WeighsTo value n states t best e l

abbrev pub FindsLeaving : {N : Type 0} → (N → ℚ) → ℕ → ℕ → List RowState → Tableau N → List (Entry N) → Option (Leaving N) → Type 0
FindsLeaving value size n states t made None = (p : ℕ) → p < size → Limits (state_there n states t p) (at value made p) → ⊥
FindsLeaving value size n states t made (Some l) = (value l.number ≡ at value made l.place) × Leaves size n states (basis_of t) (point_of value t) (at value made) l.place (value l.step)

-- places below lo are done, the others stand in the rest of the list
pub record Scanned {N : Type 0} (value : N → ℚ) (size : ℕ) (made : List (Entry N)) (k : ℕ) (Done : ℕ → Type 0) : Type 0 where
  pub lo : ℕ
  pub rises : Rises lo size (drop k made)
  pub pending : (p : ℕ) → lo ≤ p → at value (drop k made) p ≡ at value made p
  pub done : (p : ℕ) → p < lo → Done p

abbrev pub Handled : {N : Type 0} → (N → ℚ) → ℕ → List RowState → Tableau N → List (Entry N) → Option (Leaving N) → ℕ → Type 0
Handled value n states t made None p = Limits (state_there n states t p) (at value made p) → ⊥
Handled value n states t made (Some l) p = Limits (state_there n states t p) (at value made p) → value l.step ≤ℚ ratio value t p (at value made p)

abbrev pub IsFound : {N : Type 0} → (N → ℚ) → ℕ → ℕ → List RowState → Tableau N → List (Entry N) → Option (Leaving N) → Type 0
IsFound value size n states t made None = Unit {0}
IsFound value size n states t made (Some l) = (l.place < size) × (value l.number ≡ at value made l.place) × IsCandidate value n states t l

pub record Searched {N : Type 0} (value : N → ℚ) (size n : ℕ) (states : List RowState) (t : Tableau N) (made : List (Entry N)) (k : ℕ) (best : Option (Leaving N)) : Type 0 where
  pub found : IsFound value size n states t made best
  pub scanned : Scanned value size made k (Handled value n states t made best)
