-- Laws of specs/Drive.
use Rattle.std.proofs.Common.{ℕ, ◌≡◌, ◌≢◌, ◌+◌, ◌<◌, ◌≤◌, sym, ◌∙◌, ap, subst, List, Bool, Option, Some, None, arith, refl, length}
use Rattle.exact_num.specs.Q.{ℚ}
use Rattle.std.proofs.Common.{get_or}
use Rattle.std.proofs.Math.Decide.{ℕ_discrete}
use Rattle.exact_num.specs.Ops.{zero_ℚ, one_ℚ, ◌*ℚ◌}
use Rattle.exact_num.specs.Order.{zero-<ℚ-one, <ℚ-not-≡}
use Rattle.exact_num.specs.Sums.{sum_ℚ-same}
use Rattle.simplex_tableau.proofs.BasisLaws.{one_place}
use Rattle.simplex_tableau.proofs.SimplexLaws.{state_of-slack}
use Rattle.simplex_tableau.specs.Dense.{num}
use Rattle.simplex_tableau.specs.declared.sparse.Entry.{Entry}
use Rattle.exact_simplex.specs.declared.progress.Task.{Task}
use Rattle.exact_simplex.specs.declared.progress.Progress.{Progress}
use Rattle.simplex_tableau.specs.Sparse.{at}
use Rattle.simplex_tableau.proofs.SparseLaws.{sum-at}
use Rattle.simplex_tableau.specs.Inverse.{inv_of, list_at, Makes}
use Rattle.simplex_tableau.specs.States.{state_of, Limits}
use Rattle.simplex_tableau.specs.Tableau.{basis_of, inverse_of, point_of}
use Rattle.simplex_tableau.specs.Leave.{state_there, FindsLeaving}
use Rattle.exact_simplex.specs.Enter.{Helps, Chooses, product, MayHelp}
use Rattle.simplex_tableau.specs.declared.leave.Leaving.{Leaving}
use Rattle.simplex_tableau.specs.declared.state.RowState.{RowState}
use Rattle.exact_simplex.specs.Progress.{size_of, column_of, side_of, IsTaskLists, IsProgress, IsRow, Advances}
use Rattle.exact_simplex.proofs.ProgressLaws.{made_is}
use Rattle.simplex_tableau.specs.declared.state.RowState.TheVariants as state
use Rattle.exact_simplex.specs.Drive.{IsNowhere, IsUnbounded, Keeps}

pub keeps_none : {N : Type 0} (value : N → ℚ) (task : Task N) (limit : ℕ) (p : Progress N) (steps : ℕ) → IsProgress value task p → p.pivots ≤ limit → Keeps value task limit p p steps steps
keeps_none value task limit p steps is l = record { progress = is; states = refl; counted = refl; within = l }

pub keeps_advance : {N : Type 0} (value : N → ℚ) (task : Task N) (row entering place limit : ℕ) (old new : Progress N) (y : List N) (steps steps' : ℕ) → Advances value task row entering place old new y steps steps' → old.pivots < limit → Keeps value task limit old new steps steps'
keeps_advance value task row entering place limit old new y steps steps' is l = record {
  progress = is.progress;
  states = is.states;
  counted = let x = is.counted in let z = is.pivots in omega arith;
  within = let z = is.pivots in omega arith;
}

pub one_not_zero : one_ℚ ≢ zero_ℚ
one_not_zero e = <ℚ-not-≡ zero_ℚ one_ℚ zero-<ℚ-one (sym e)

-- the slack of a row in the basis stands nowhere else
pub only_place : {N : Type 0} (value : N → ℚ) (task : Task N) (p : Progress N) (row q : ℕ) → IsProgress value task p → row < size_of task → basis_of p.tableau row ≡ task.columns + row → q < size_of task → basis_of p.tableau q ≡ task.columns + row → q ≡ row
only_place value task p row q is l own_place j e =
    one_place (size_of task) (column_of value task) (side_of value task) (basis_of p.tableau) (inverse_of value p.tableau) (point_of value p.tableau) one_not_zero is.basis q row j l (e ∙ sym own_place)

-- where the slack's own place was left, it stands nowhere
pub left_nowhere : {N : Type 0} (value : N → ℚ) (task : Task N) (row entering place : ℕ) (old new : Progress N) (y : List N) (steps steps' : ℕ) → IsProgress value task old → row < size_of task
    → basis_of old.tableau row ≡ task.columns + row → get_or old.states.items row state.Waiting ≢ state.AtLeast → state_of task.columns old.states.items entering ≡ state.AtLeast
    → place ≡ row → Advances value task row entering place old new y steps steps' → IsNowhere task row new
left_nowhere value task row entering place old new y steps steps' is l own_place other may here adv q j e =
    let go : Dec (q ≡ place) → ⊥ = elim [
      | yes s ↦
          let came : entering ≡ task.columns + row = sym adv.enters ∙ ap (basis_of new.tableau) (sym s) ∙ e in
          other (sym (state_of-slack task.columns old.states.items row) ∙ ap (state_of task.columns old.states.items) (sym came) ∙ may)
      | no ne ↦ ne (only_place value task old row q is l own_place j (sym (adv.others q j ne) ∙ e) ∙ sym here)
    ] in
    go (ℕ_discrete q place)

-- a drive that comes to an end of its own at the row cannot be open
pub unbounded_blocked : {N : Type 0} (value : N → ℚ) (task : Task N) (p : Progress N) (y : List N) (up : Bool) (row entering : ℕ) (made : List (Entry N)) → IsTaskLists task → IsProgress value task p → row < size_of task → IsRow value (size_of task) p.tableau row y
    → IsUnbounded value task p y up entering made → (Helps up (at value made row) → Limits (state_there task.columns p.states.items p.tableau row) (at value made row)) → ⊥
unbounded_blocked value task p y up row entering made lists is l is_row free limits =
    let below : entering < task.columns + size_of task = let e = lists.each in let k = free.below in omega arith in
    let same : product value task y entering ≡ at value made row
    = sym (sum-at value (num value y) (list_at task.lists.items entering) (size_of task) (lists.below entering below))
    ∙ sum_ℚ-same (λ k. num value y k *ℚ at value (list_at task.lists.items entering) k) (λ k. inv_of value p.tableau.inverse.items k row *ℚ at value (list_at task.lists.items entering) k) (size_of task) (λ k j. ap (λ u. u *ℚ at value (list_at task.lists.items entering) k) (is_row.same k j))
    ∙ made_is value (size_of task) p.tableau.inverse.items (list_at task.lists.items entering) made (lists.below entering below) free.makes row in
    free.free row l (limits (subst (λ q. Helps up q) same free.helps.helps))

-- what was chosen, made and not found, in the words of the caller
pub unbounded_is : {N : Type 0} (value : N → ℚ) (task : Task N) (p : Progress N) (y : List N) (up : Bool) (v m : ℕ) (states'' : List RowState) (inverse' : List (List (Entry N))) (column' made made' : List (Entry N)) (f : Option (Leaving N))
    → v < length task.lists.items → MayHelp value task p.states.items y up v
    → inverse' ≡ p.tableau.inverse.items → column' ≡ list_at task.lists.items v → Makes value inverse' column' made
    → m ≡ size_of task → states'' ≡ p.states.items → made' ≡ made → f ≡ None → FindsLeaving value m task.columns states'' p.tableau made' f
    → IsUnbounded value task p y up v made
unbounded_is value task p y up v m states'' inverse' column' made made' f below helps i_same c_same makes m_same s_same made_same none found =
    record {
      below = below;
      helps = helps;
      makes = subst (λ c. Makes value p.tableau.inverse.items c made) c_same (subst (λ i. Makes value i column' made) i_same makes);
      free = subst (λ l. FindsLeaving value (size_of task) task.columns p.states.items p.tableau l None) made_same
          (subst (λ s. FindsLeaving value (size_of task) task.columns s p.tableau made' None) s_same
          (subst (λ k. FindsLeaving value k task.columns states'' p.tableau made' None) m_same (subst (λ q. FindsLeaving value m task.columns states'' p.tableau made' q) none found)));
    }
