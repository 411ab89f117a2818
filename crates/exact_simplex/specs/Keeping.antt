-- What a drive that keeps the kept rows comes to, and multipliers that a check found right.
use Rattle.std.proofs.Common.{Global, Vec, ℕ, ◌≡◌, List, length, Bool, true, false, Option, Some, None}
use Rattle.exact_num.specs.Q.{ℚ}
use Rattle.exact_num.specs.Ops.{one_ℚ}
use Rattle.exact_simplex.specs.declared.progress.Task.{Task}
use Rattle.exact_simplex.specs.declared.progress.Progress.{Progress}
use Rattle.simplex_tableau.specs.Dense.{num}
use Rattle.simplex_tableau.specs.Pivot.{dot}
use Rattle.simplex_tableau.specs.Tableau.{point_of}
use Rattle.exact_simplex.specs.declared.drive.Driven.{Driven}
use Rattle.exact_simplex.specs.declared.drive.Driven.TheVariants as driven
use Rattle.exact_simplex.specs.Drive.{Keeps, IsThere, IsNowhere, GoesOn}
use Rattle.exact_simplex.specs.Enter.{IsExtreme}
use Rattle.exact_simplex.specs.Progress.{size_of, side_of}

-- the slack left the basis, or stands where it stood
abbrev pub EndsKept : {N : Type 0} → (N → ℚ) → Task N → ℕ → Progress N → Progress N → List N → Bool → Type 0
EndsKept value task row old new y true = IsNowhere task row new
EndsKept value task row old new y false = IsThere value task row old new y

abbrev pub DrivesKept : {N : Type 0} → (N → ℚ) → Task N → ℕ → ℕ → Progress N → Progress N → List N → ℕ → ℕ → Bool → Type 0
DrivesKept value task row limit old new y steps steps' left = Keeps value task limit old new steps steps' × EndsKept value task row old new y left

abbrev pub StepsKept : {N : Type 0} → (N → ℚ) → Task N → ℕ → ℕ → Progress N → Progress N → List N → ℕ → ℕ → Option Bool → Type 0
StepsKept value task row limit old new y steps steps' None = GoesOn value task row limit old new y steps steps'
StepsKept value task row limit old new y steps steps' (Some left) = DrivesKept value task row limit old new y steps steps' left

-- what a pivot that helps means for a drive that keeps the kept rows
abbrev pub kept_of : {N : Type 0} → Option (Driven N) → Option Bool
kept_of None = None
kept_of (Some driven.Left) = Some true
kept_of (Some driven.Stuck) = Some false
kept_of (Some (driven.Unbounded _ _)) = Some false
kept_of (Some driven.Stalled) = Some false

-- multipliers with 1 at a row whose sum of sides is the value at its place
pub record IsDual {N : Type 0} (value : N → ℚ) (task : Task N) (p : Progress N) (row : ℕ) (y : List N) : Type 0 where
  pub one_each : length y ≡ size_of task
  pub own : num value y row ≡ one_ℚ
  pub total : dot (num value y) (side_of value task) (size_of task) ≡ point_of value p.tableau row

pub record IsCertified {N : Type 0} (value : N → ℚ) (task : Task N) (p : Progress N) (row : ℕ) (y : List N) : Type 0 where
  pub dual : IsDual value task p row y
  pub extreme : IsExtreme value task p.states.items y true

-- the gain was driven up, and the multipliers show that the point is best
abbrev pub AscendsKept : {N : Type 0} → (N → ℚ) → Task N → ℕ → ℕ → Progress N → Progress N → ℕ → ℕ → Option (Vec N Global) → Type 0
AscendsKept value task gain limit old new steps steps' None = Keeps value task limit old new steps steps'
AscendsKept value task gain limit old new steps steps' (Some y) = Keeps value task limit old new steps steps' × IsCertified value task new gain y.items
