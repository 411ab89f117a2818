-- All rows come in force, one after the other.
use Rattle.std.specs.Prelude.{ℕ, ◌≡◌, ◌<◌, ◌≤◌, List, length, Option, Some, None, Bool, true, false}
use Rattle.std.proofs.Common.{get_or, set, ◌⊎◌}
use Rattle.exact_num.specs.Q.{ℚ}
use Rattle.exact_simplex.specs.declared.force.Blocked.{Blocked}
use Rattle.exact_simplex.specs.declared.force.Blocked.TheVariants as blocked
use Rattle.exact_simplex.specs.declared.progress.Task.{Task}
use Rattle.exact_simplex.specs.declared.progress.Progress.{Progress}
use Rattle.simplex_tableau.specs.declared.state.RowState.{RowState}
use Rattle.simplex_tableau.specs.declared.state.RowState.TheVariants as state
use Rattle.exact_simplex.specs.declared.task.Lp.{Lp}
use Rattle.exact_simplex.specs.declared.task.RowKind.{RowKind}
use Rattle.simplex_tableau.specs.Dense.{num}
use Rattle.exact_simplex.specs.Empty.{ShowsEmptyFraction}
use Rattle.exact_simplex.specs.Final.{AreSettled}
use Rattle.exact_simplex.specs.Force.{Counts, WaitsOrHolds}
use Rattle.exact_simplex.specs.Progress.{size_of, IsProgress}
use Rattle.exact_simplex.specs.InForce.{in_force}
use Rattle.exact_simplex.specs.Task.{row_at}

-- the first rows are in force, the others wait or are in force too
pub record AreForced (lp : Lp) (states : List RowState) (count : ℕ) : Type 0 where
  pub done : (i : ℕ) → i < count → get_or states i state.Waiting ≡ in_force (row_at lp i).kind
  pub ahead : (i : ℕ) → count ≤ i → WaitsOrHolds (row_at lp i).kind (get_or states i state.Waiting)
  pub gain : get_or states (length lp.rows) state.Waiting ≡ state.Waiting

-- the rows from one on wait
pub record AreLed (lp : Lp) (states : List RowState) (count : ℕ) : Type 0 where
  pub forced : AreForced lp states 0
  pub behind : (i : ℕ) → count ≤ i → get_or states i state.Waiting ≡ state.Waiting

-- a row came in force, or nothing changed
pub record LeadsTo {N : Type 0} (value : N → ℚ) (task : Task N) (row : ℕ) (k : RowKind) (old new : Progress N) : Type 0 where
  pub progress : IsProgress value task new
  pub states : (new.states.items ≡ old.states.items) ⊎ (new.states.items ≡ set old.states.items row (in_force k))
  pub pivots : new.pivots ≡ old.pivots

-- the gain was driven up
pub record Ascends {N : Type 0} (value : N → ℚ) (task : Task N) (limit : ℕ) (old new : Progress N) (steps steps' : ℕ) : Type 0 where
  pub progress : IsProgress value task new
  pub counts : Counts limit old new steps steps'
  pub states : new.states ≡ old.states

abbrev pub ForcesAll : {N : Type 0} → (N → ℚ) → Lp → Task N → ℕ → Progress N → Progress N → ℕ → ℕ → Option (Blocked N) → Type 0
ForcesAll value lp task limit old new steps steps' None = Counts limit old new steps steps' × IsProgress value task new × AreSettled lp new.states.items
ForcesAll value lp task limit old new steps steps' (Some (blocked.Empty z)) = Counts limit old new steps steps' × ShowsEmptyFraction lp (num value z.items) × (length z.items ≡ size_of task)
ForcesAll value lp task limit old new steps steps' (Some blocked.Stalled) = Counts limit old new steps steps' × (new.pivots ≡ limit)
