-- Laws of specs/Progress.
use Rattle.std.proofs.Common.{ℕ, ◌≡◌, ◌≢◌, ◌+◌, ◌<◌, sym, ◌∙◌, ap, ap₂, subst, List, length, Option, Some, None, arith}
use Rattle.std.proofs.Math.Decide.{ℕ_discrete}
use Rattle.exact_num.specs.Q.{ℚ}
use Rattle.exact_num.specs.Ops.{zero_ℚ, neg_ℚ, ◌+ℚ◌, ◌*ℚ◌, +ℚ-zero, *ℚ_comm, *ℚ-zero}
use Rattle.simplex_tableau.specs.declared.sparse.Entry.{Entry}
use Rattle.simplex_tableau.specs.declared.basis.Tableau.{Tableau}
use Rattle.exact_simplex.specs.declared.progress.Task.{Task}
use Rattle.exact_simplex.specs.declared.progress.Progress.{Progress}
use Rattle.simplex_tableau.specs.Sparse.{at, PlacesBelow, NumberAt}
use Rattle.simplex_tableau.proofs.SparseLaws.{sum-at}
use Rattle.simplex_tableau.specs.Dense.{num}
use Rattle.simplex_tableau.specs.Inverse.{inv_of, list_at, Makes}
use Rattle.simplex_tableau.specs.Pivot.{IsPivoted, dot}
use Rattle.simplex_tableau.proofs.BasisLaws.{pivot_keeps}
use Rattle.simplex_tableau.specs.States.{state_of}
use Rattle.simplex_tableau.proofs.StatesLaws.{neg_neg, limits_some}
use Rattle.simplex_tableau.specs.Simplex.{IsFeasible, Leaves}
use Rattle.simplex_tableau.proofs.SimplexLaws.{feasible_step}
use Rattle.simplex_tableau.specs.Tableau.{PivotsTo, basis_of, inverse_of, point_of}
use Rattle.simplex_tableau.specs.declared.state.RowState.TheVariants as state
use Rattle.exact_simplex.specs.Progress.{IsProgress, IsRow, IsTaskLists, TurnsRow, column_of, side_of, size_of}

-- the inverse times a column, by its definition
pub made_is : {N : Type 0} (value : N → ℚ) (size : ℕ) (inverse : List (List (Entry N))) (column made : List (Entry N)) → PlacesBelow size column → Makes value inverse column made
    → (p : ℕ) → dot (λ k. inv_of value inverse k p) (λ k. at value column k) size ≡ at value made p
made_is value size inverse column made below makes p = sum-at value (λ k. inv_of value inverse k p) column size below ∙ sym (makes.sums p)

-- the row of y after a pivot elsewhere
pub row_turned : {N : Type 0} (value : N → ℚ) (size place row entering : ℕ) (made taken : List (Entry N)) (old new : Tableau N) (y y' : List N) (found : Option N)
    → row < size → row ≢ place → NumberAt value made row found → PivotsTo value size place entering made old new taken → IsRow value size old row y → length y' ≡ length y → TurnsRow value y found taken y' → IsRow value size new row y'
row_turned value size place row entering made taken old new y y' None l ne none pivots is same_length turns = record {
  one_each = same_length ∙ is.one_each;
  same = λ k j.
      ap (λ z. num value z k) turns ∙ is.same k j
      ∙ sym ((pivots.turns k j).others row l ne ∙ ap (λ a. inverse_of value old k row +ℚ neg_ℚ (neg_ℚ (at value taken k)) *ℚ a) none ∙ ap (λ a. inverse_of value old k row +ℚ a) (*ℚ-zero (neg_ℚ (neg_ℚ (at value taken k)))) ∙ +ℚ-zero (inverse_of value old k row));
}
row_turned value size place row entering made taken old new y y' (Some x) l ne found pivots is same_length turns = record {
  one_each = same_length ∙ is.one_each;
  same = λ k j.
      turns k (let w = is.one_each in omega arith)
      ∙ ap₂ (λ a b. a +ℚ b) (is.same k j) (*ℚ_comm (value x) (at value taken k) ∙ ap₂ (λ a b. a *ℚ b) (sym (neg_neg (at value taken k))) (sym found))
      ∙ sym ((pivots.turns k j).others row l ne);
}

-- the step's parts together
pub advanced : {N : Type 0} (value : N → ℚ) (task : Task N) (place entering : ℕ) (made taken : List (Entry N)) (old new : Progress N) (step : ℚ)
    → IsTaskLists task → IsProgress value task old → entering < task.columns + size_of task → state_of task.columns old.states.items entering ≡ state.AtLeast
    → Makes value old.tableau.inverse.items (list_at task.lists.items entering) made
    → Leaves (size_of task) task.columns old.states.items (basis_of old.tableau) (point_of value old.tableau) (at value made) place step
    → new.states ≡ old.states → PivotsTo value (size_of task) place entering made old.tableau new.tableau taken → IsProgress value task new
advanced value task place entering made taken old new step lists was l may makes leaves same pivots =
    let size = size_of task in
    let d = at value made in
    let some : d place ≢ zero_ℚ = limits_some (state_of task.columns old.states.items (basis_of old.tableau place)) (d place) leaves.limits in
    let moves : IsPivoted size place d (point_of value old.tableau) (point_of value new.tableau) step
    = subst (λ t. IsPivoted size place d (point_of value old.tableau) (point_of value new.tableau) t) (sym leaves.step_is) pivots.moves in
    record {
      shape = pivots.shape;
      states_length = ap (λ s. length s.items) same ∙ was.states_length;
      within = λ q j.
          let go : Dec (q ≡ place) → basis_of new.tableau q < task.columns + size = elim [
            | yes e ↦ subst (λ b. b < task.columns + size) (sym (ap (basis_of new.tableau) e ∙ pivots.enters)) l
            | no ne ↦ subst (λ b. b < task.columns + size) (sym (pivots.others q j ne)) (was.within q j)
          ] in
          go (ℕ_discrete q place);
      basis = pivot_keeps size place entering (column_of value task) (side_of value task) (basis_of old.tableau) (basis_of new.tableau) (inverse_of value old.tableau) (inverse_of value new.tableau) (point_of value old.tableau) (point_of value new.tableau) d (λ k. neg_ℚ (at value taken k)) step
          leaves.below some (λ p j. made_is value size old.tableau.inverse.items (list_at task.lists.items entering) made (lists.below entering l) makes p) pivots.turns moves pivots.enters pivots.others was.basis;
      feasible = subst (λ s. IsFeasible size task.columns s (basis_of new.tableau) (point_of value new.tableau)) (sym (ap (λ s. s.items) same))
          (feasible_step size task.columns entering old.states.items (basis_of old.tableau) (basis_of new.tableau) (point_of value old.tableau) (point_of value new.tableau) d place step leaves may moves pivots.enters pivots.others was.feasible);
    }
