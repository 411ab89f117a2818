-- A direction in fractions that keeps each row, with a positive gain.
use Rattle.std.specs.Prelude.{ℕ, ◌≡◌, ◌<◌, ◌+◌, length, List}
use Rattle.exact_num.specs.Ops.{one_ℚ, neg_ℚ}
use Rattle.simplex_tableau.specs.declared.sparse.Entry.{Entry}
use Rattle.exact_simplex.specs.declared.progress.Task.{Task}
use Rattle.exact_simplex.specs.declared.progress.Progress.{Progress}
use Rattle.simplex_tableau.specs.Dense.{num}
use Rattle.exact_simplex.specs.Point.{variable_value}
use Rattle.exact_simplex.specs.Progress.{size_of}
use Rattle.simplex_tableau.specs.Sparse.{at}
use Rattle.simplex_tableau.specs.Tableau.{basis_of}
use Rattle.exact_num.specs.Q.{ℚ}
use Rattle.exact_num.specs.Ops.{zero_ℚ, ◌*ℚ◌}
use Rattle.exact_num.specs.Order.{◌≤ℚ◌, ◌<ℚ◌}
use Rattle.exact_num.specs.Sums.{sum_ℚ}
use Rattle.exact_num.specs.Whole.{int_ℚ}
use Rattle.exact_simplex.specs.Scaled.{MeetsFraction}
use Rattle.exact_simplex.specs.Task.{int_at, cell, row_at}
use Rattle.exact_simplex.specs.declared.task.Lp.{Lp}

pub record IsRayFraction (lp : Lp) (X : ℕ → ℚ) : Type 0 where
  pub sign : (j : ℕ) → j < lp.columns → zero_ℚ ≤ℚ X j
  pub rows : (i : ℕ) → i < length lp.rows → MeetsFraction (row_at lp i).kind (sum_ℚ (λ j. X j *ℚ int_ℚ (cell lp i j)) lp.columns) zero_ℚ
  pub gains : zero_ℚ <ℚ sum_ℚ (λ j. X j *ℚ int_ℚ (int_at lp.gain j)) lp.columns

-- how the columns move where a variable grows by 1: that variable stands at one place more than the basis has
pub record IsDirection {N : Type 0} (value : N → ℚ) (task : Task N) (p : Progress N) (entering : ℕ) (made : List (Entry N)) (values : List N) : Type 0 where
  pub variables : ℕ → ℕ
  pub steps : ℕ → ℚ
  pub one_each : length values ≡ task.columns
  pub same : (v : ℕ) → v < task.columns → num value values v ≡ variable_value variables steps (size_of task + 1) v
  pub places : (q : ℕ) → q < size_of task → variables q ≡ basis_of p.tableau q
  pub last : variables (size_of task) ≡ entering
  pub falls : (q : ℕ) → q < size_of task → steps q ≡ neg_ℚ (at value made q)
  pub one : steps (size_of task) ≡ one_ℚ
