-- How a row comes in force.
use Rattle.std.proofs.Common.{ℕ, ◌≡◌, ◌≢◌, ◌+◌, ◌<◌, ◌≤◌, sym, ◌∙◌, ap, subst, List, [], ◌∷◌, ◌++◌, length, get_or, set, Option, Some, None, Bool, true, false, arith, unwrap_or, get_or-set_same, get_or-set_other, length-append}
use Rattle.std.proofs.Math.Decide.{ℕ_discrete}
use Rattle.exact_num.specs.Q.{ℚ}
use Rattle.exact_num.specs.Ops.{zero_ℚ, one_ℚ, neg_ℚ, ◌*ℚ◌, neg-*ℚ, one-*ℚ}
use Rattle.exact_num.specs.Order.{◌≤ℚ◌, ≤ℚ_refl}
use Rattle.simplex_tableau.specs.declared.sparse.Entry.{Entry}
use Rattle.exact_simplex.specs.declared.drive.Driven.{Driven}
use Rattle.exact_simplex.specs.declared.drive.Driven.TheVariants as driven
use Rattle.exact_simplex.specs.declared.force.Blocked.{Blocked}
use Rattle.exact_simplex.specs.declared.force.Blocked.TheVariants as blocked
use Rattle.exact_simplex.specs.declared.progress.Task.{Task}
use Rattle.exact_simplex.specs.declared.progress.Progress.{Progress}
use Rattle.simplex_tableau.specs.declared.state.RowState.{RowState}
use Rattle.simplex_tableau.specs.declared.state.RowState.TheVariants as state
use Rattle.exact_simplex.specs.declared.task.RowKind.{RowKind}
use Rattle.exact_simplex.specs.declared.task.RowKind.TheVariants as kind
use Rattle.simplex_tableau.specs.Sparse.{at, NumberAt}
use Rattle.simplex_tableau.specs.Dense.{num}
use Rattle.simplex_tableau.proofs.DenseLaws.{num-get}
use Rattle.simplex_tableau.specs.Inverse.{inv_of, list_at}
use Rattle.exact_simplex.specs.Enter.{Helps, IsExtreme}
use Rattle.simplex_tableau.specs.States.{Okay, Limits, state_of, driven_state_of}
use Rattle.exact_simplex.specs.InForce.{in_force}
use Rattle.simplex_tableau.proofs.SimplexLaws.{state_of-slack}
use Rattle.simplex_tableau.specs.Tableau.{basis_of, point_of}
use Rattle.exact_simplex.specs.Progress.{size_of, IsTaskLists, IsProgress, IsRow}
use Rattle.exact_simplex.specs.Drive.{Keeps, IsThere, EndsAt}
use Rattle.exact_simplex.proofs.DriveLaws.{only_place, unbounded_blocked}
use Rattle.exact_simplex.specs.Keeping.{EndsKept}
use Rattle.exact_simplex.specs.Force.{IsRowOf, SuitsAt, Settles, Counts, IsInForce, SignedTo, IsStuck, IsDriven, SettlesOrShows, ForcesTo}
use Rattle.simplex_tableau.proofs.ListLemmas.{num-end, num-front, set_twice}

-- ---- a row with all its numbers

pub row_of_more : {N : Type 0} (value : N → ℚ) (inverse : List (List (Entry N))) (row k : ℕ) (ys : List N) (found : Option N) (none : N) → value none ≡ zero_ℚ → NumberAt value (list_at inverse k) row found
    → IsRowOf value inverse row k ys → IsRowOf value inverse row (k + 1) (ys ++ unwrap_or found none ∷ [])
row_of_more {N = N} value inverse row k ys found none zero_is is so = record {
  one_each = let e = so.one_each in let a = length-append ys (unwrap_or found none ∷ []) in omega arith;
  same = λ j l.
      let go : Dec (j ≡ k) → num value (ys ++ unwrap_or found none ∷ []) j ≡ inv_of value inverse j row = elim [
        | yes e ↦
            ap (num value (ys ++ unwrap_or found none ∷ [])) (e ∙ sym so.one_each) ∙ num-end value ys (unwrap_or found none) ∙ number found is ∙ ap (λ i. inv_of value inverse i row) (sym e)
        | no ne ↦ num-front value ys (unwrap_or found none) j (let e = so.one_each in omega arith) ∙ so.same j (omega arith)
      ] in
      go (ℕ_discrete j k);
}
  where
    number : (o : Option N) → NumberAt value (list_at inverse k) row o → value (unwrap_or o none) ≡ inv_of value inverse k row
    number (Some x) h = sym h
    number None h = zero_is ∙ sym h

-- one opposite more
pub opposite_more : {N : Type 0} (value : N → ℚ) (y : List N) (k : ℕ) (z : List N) (minus old new : N) → k < length y → old ≡ get_or y k old → value minus ≡ neg_ℚ one_ℚ → value new ≡ value minus *ℚ value old
    → SignedTo value false y k z → SignedTo value false y (k + 1) (z ++ new ∷ [])
opposite_more value y k z minus old new l here minus_is times so = record {
  one_each = let e = so.one_each in let a = length-append z (new ∷ []) in omega arith;
  same = λ j h.
      let go : Dec (j ≡ k) → num value (z ++ new ∷ []) j ≡ neg_ℚ (num value y j) = elim [
        | yes e ↦
            ap (num value (z ++ new ∷ [])) (e ∙ sym so.one_each) ∙ num-end value z new ∙ times ∙ ap (λ m. m *ℚ value old) minus_is ∙ neg-*ℚ one_ℚ (value old)
            ∙ ap neg_ℚ (one-*ℚ (value old) ∙ sym (num-get value y k old l here) ∙ ap (num value y) (sym e))
        | no ne ↦ num-front value z new j (let e = so.one_each in omega arith) ∙ so.same j (omega arith)
      ] in
      go (ℕ_discrete j k);
}

-- ---- another state

abbrev IsDrivenState : RowState → Type 0
IsDrivenState state.Below = Unit {0}
IsDrivenState state.Above = Unit {0}
IsDrivenState state.Waiting = ⊥
IsDrivenState state.AtLeast = ⊥
IsDrivenState state.Zero = ⊥

abbrev IsForce : RowState → Type 0
IsForce state.AtLeast = Unit {0}
IsForce state.Zero = Unit {0}
IsForce state.Waiting = ⊥
IsForce state.Above = ⊥
IsForce state.Below = ⊥

pub okay_zero : (k : RowKind) (x : ℚ) → x ≡ zero_ℚ → Okay (in_force k) x
okay_zero kind.AtMost x e = subst (λ q. zero_ℚ ≤ℚ q) (sym e) (≤ℚ_refl zero_ℚ)
okay_zero kind.Equal x e = e

-- a value that suits, where the slack stands at its own place
pub suits_here : {N : Type 0} (value : N → ℚ) (task : Task N) (row : ℕ) (s : RowState) (p : Progress N) → IsProgress value task p → row < size_of task → basis_of p.tableau row ≡ task.columns + row → Okay s (point_of value p.tableau row) → SuitsAt value task p row s
suits_here value task row s p is l own_place okay = λ q j e. subst (λ i. Okay s (point_of value p.tableau i)) (sym (only_place value task p row q is l own_place j e)) okay

-- the value at the place of a row
pub point_is : {N : Type 0} (value : N → ℚ) (task : Task N) (row : ℕ) (p : Progress N) (x : N) → IsProgress value task p → row < size_of task → x ≡ get_or p.tableau.point.items row x → point_of value p.tableau row ≡ value x
point_is value task row p x is l here = num-get value p.tableau.point.items row x (let e = is.shape.point_length in omega arith) here

-- a waiting row whose slack has a value that suits
pub waiting_suits : {N : Type 0} (value : N → ℚ) (task : Task N) (row : ℕ) (s : RowState) (p : Progress N) → IsProgress value task p → row < size_of task → get_or p.states.items row state.Waiting ≡ state.Waiting
    → Okay s (point_of value p.tableau row) → SuitsAt value task p row s
waiting_suits value task row s p is l waits okay = suits_here value task row s p is l (is.feasible.own_place row l waits) okay

-- a row is in force after it was driven
pub forced_after : {N : Type 0} (value : N → ℚ) (task : Task N) (row limit : ℕ) (k : RowKind) (up : Bool) (a b c e : Progress N) (steps steps' : ℕ)
    → Settles value task row (driven_state_of up) a b → Keeps value task limit b c steps steps' → Settles value task row (in_force k) c e → Counts limit a e steps steps' × IsInForce value task row k a e
forced_after value task row limit k up a b c e steps steps' first keeps second = (
  record {
    counted = let x = first.pivots in let y = second.pivots in let z = keeps.counted in omega arith;
    within = let y = second.pivots in let z = keeps.within in omega arith;
  },
  record {
    progress = second.progress;
    states = second.states ∙ ap (λ v. set v.items row (in_force k)) keeps.states ∙ ap (λ xs. set xs row (in_force k)) first.states ∙ set_twice a.states.items row (driven_state_of up) (in_force k);
  },
)

pub counts_after : {N : Type 0} (value : N → ℚ) (task : Task N) (row limit : ℕ) (s : RowState) (a b c : Progress N) (steps steps' : ℕ) → Settles value task row s a b → Keeps value task limit b c steps steps' → Counts limit a c steps steps'
counts_after value task row limit s a b c steps steps' first keeps = record {
  counted = let x = first.pivots in let z = keeps.counted in omega arith;
  within = keeps.within;
}

-- the slack of a row that was set going stands at its place
pub own_place_after : {N : Type 0} (value : N → ℚ) (task : Task N) (row : ℕ) (s : RowState) (a b c : Progress N) (y : List N) → IsProgress value task a → row < size_of task → get_or a.states.items row state.Waiting ≡ state.Waiting
    → Settles value task row s a b → IsThere value task row b c y → basis_of c.tableau row ≡ task.columns + row
own_place_after value task row s a b c y is l waits first there = there.same ∙ ap (λ t. basis_of t row) first.tableau ∙ is.feasible.own_place row l waits

-- and has the state that was set
pub state_after : {N : Type 0} (value : N → ℚ) (task : Task N) (row limit : ℕ) (s : RowState) (a b c : Progress N) (steps steps' : ℕ) → IsProgress value task a → row < size_of task
    → Settles value task row s a b → Keeps value task limit b c steps steps' → get_or c.states.items row state.Waiting ≡ s
state_after value task row limit s a b c steps steps' is l first keeps =
    ap (λ v. get_or v.items row state.Waiting) keeps.states ∙ ap (λ xs. get_or xs row state.Waiting) first.states
    ∙ get_or-set_same a.states.items row s state.Waiting (let e = is.states_length in omega arith)

limits_by : (up : Bool) (d : ℚ) → Helps up d → Limits (driven_state_of up) d
limits_by true d h = h
limits_by false d h = h

-- what a drive that keeps the kept rows leaves of a row that stays in the basis, in the words of the caller
pub driven_after : {N : Type 0} (value : N → ℚ) (task : Task N) (row limit : ℕ) (up : Bool) (a b c : Progress N) (y y' : List N) (steps steps' : ℕ) → IsProgress value task a → row < size_of task → get_or a.states.items row state.Waiting ≡ state.Waiting
    → Settles value task row (driven_state_of up) a b → Keeps value task limit b c steps steps' → y' ≡ y → (left : Bool) → left ≡ false → EndsKept value task row b c y left → IsDriven value task row up c y'
driven_after value task row limit up a b c y y' steps steps' is l waits first keeps same left stays ended =
    let there : IsThere value task row b c y = subst (λ e. EndsKept value task row b c y e) stays ended in
    record {
      progress = keeps.progress;
      own_place = own_place_after value task row (driven_state_of up) a b c y is l waits first there;
      driven = state_after value task row limit (driven_state_of up) a b c steps steps' is l first keeps;
      is_row = subst (λ z. IsRow value (size_of task) c.tableau row z) (sym same) there.is_row;
    }

pub driven_not_least : (up : Bool) (s : RowState) → s ≡ driven_state_of up → s ≢ state.AtLeast
driven_not_least true s e = λ f. subst IsDrivenState (sym e ∙ f) tt
driven_not_least false s e = λ f. subst IsDrivenState (sym e ∙ f) tt

-- where nothing helps any more, in the words of the caller
pub stuck_after : {N : Type 0} (value : N → ℚ) (task : Task N) (row limit : ℕ) (up : Bool) (b c : Progress N) (y₀ y y' : List N) (steps steps' : ℕ) (d : Driven N) → row < size_of task → IsDriven value task row up b y₀
    → Keeps value task limit b c steps steps' → y' ≡ y → d ≡ driven.Stuck → EndsAt value task row up limit b c y d → IsStuck value task row up c y'
stuck_after value task row limit up b c y₀ y y' steps steps' d l is keeps same stuck ended =
    let end = subst (λ e. EndsAt value task row up limit b c y e) stuck ended in
    let own_place = end.0.same ∙ is.own_place in
    record {
      progress = keeps.progress;
      own_place = own_place;
      side = subst (λ s. Okay s (point_of value c.tableau row))
          (ap (state_of task.columns c.states.items) own_place ∙ state_of-slack task.columns c.states.items row ∙ ap (λ v. get_or v.items row state.Waiting) keeps.states ∙ is.driven)
          (keeps.progress.feasible.okay row l);
      is_row = subst (λ z. IsRow value (size_of task) c.tableau row z) (sym same) end.0.is_row;
      extreme = subst (λ z. IsExtreme value task c.states.items z up) (sym same) end.1;
    }

-- it cannot be open: the row itself limits the step
pub never_unbounded : {N : Type 0} (value : N → ℚ) (task : Task N) (row limit : ℕ) (up : Bool) (b c : Progress N) (y₀ y : List N) (steps steps' entering : ℕ) (made : List (Entry N)) → IsTaskLists task → row < size_of task → IsDriven value task row up b y₀
    → Keeps value task limit b c steps steps' → (d : Driven N) → d ≡ driven.Unbounded entering made → EndsAt value task row up limit b c y d → ⊥
never_unbounded value task row limit up b c y₀ y steps steps' entering made lists l is keeps d unbounded_there ended =
    let end = subst (λ e. EndsAt value task row up limit b c y e) unbounded_there ended in
    let there : state_of task.columns c.states.items (basis_of c.tableau row) ≡ driven_state_of up
    = ap (state_of task.columns c.states.items) (end.0.same ∙ is.own_place) ∙ state_of-slack task.columns c.states.items row ∙ ap (λ v. get_or v.items row state.Waiting) keeps.states ∙ is.driven in
    unbounded_blocked value task c y up row entering made lists keeps.progress l end.0.is_row end.1
    (λ h. subst (λ s. Limits s (at value made row)) (sym there) (limits_by up (at value made row) h))

-- a row whose slack is 0 comes in force at once
pub settled_here : {N : Type 0} (value : N → ℚ) (task : Task N) (row limit : ℕ) (k : RowKind) (b e : Progress N) (steps : ℕ) → b.pivots ≤ limit → Settles value task row (in_force k) b e → Counts limit b e steps steps × IsInForce value task row k b e
settled_here value task row limit k b e steps within second = (
  record {
    counted = ap (λ n. steps + n) (sym second.pivots);
    within = subst (λ n. n ≤ limit) (sym second.pivots) within;
  },
  record { progress = second.progress; states = second.states },
)

-- and one whose slack left the basis
pub forced_here : {N : Type 0} (value : N → ℚ) (task : Task N) (row limit : ℕ) (k : RowKind) (b c e : Progress N) (steps steps' : ℕ)
    → Keeps value task limit b c steps steps' → Settles value task row (in_force k) c e → Counts limit b e steps steps' × IsInForce value task row k b e
forced_here value task row limit k b c e steps steps' keeps second = (
  record {
    counted = let y = second.pivots in let z = keeps.counted in omega arith;
    within = subst (λ n. n ≤ limit) (sym second.pivots) keeps.within;
  },
  record { progress = second.progress; states = second.states ∙ ap (λ v. set v.items row (in_force k)) keeps.states },
)

counts_on : {N : Type 0} (value : N → ℚ) (task : Task N) (row limit : ℕ) (s : RowState) (a b c e : Progress N) (steps mid steps' : ℕ) → Settles value task row s a b → Keeps value task limit b c steps mid → Counts limit c e mid steps' → Counts limit a e steps steps'
counts_on value task row limit s a b c e steps mid steps' first keeps on = record {
  counted = let x = first.pivots in let y = keeps.counted in let z = on.counted in omega arith;
  within = on.within;
}

others_after : {N : Type 0} (value : N → ℚ) (task : Task N) (row limit : ℕ) (s : RowState) (a b c : Progress N) (steps steps' : ℕ) → Settles value task row s a b → Keeps value task limit b c steps steps'
    → (i : ℕ) → i ≢ row → get_or c.states.items i state.Waiting ≡ get_or a.states.items i state.Waiting
others_after value task row limit s a b c steps steps' first keeps i ne =
    ap (λ v. get_or v.items i state.Waiting) keeps.states ∙ ap (λ xs. get_or xs i state.Waiting) first.states ∙ get_or-set_other a.states.items row i s state.Waiting ne

-- the end of a drive that went no further, as the end of the whole
pub forced_from : {N : Type 0} (value : N → ℚ) (task : Task N) (row limit : ℕ) (k : RowKind) (b c e : Progress N) (steps steps' : ℕ) (o : Option (Blocked N))
    → Keeps value task limit b c steps steps' → SettlesOrShows value task row k c e o → ForcesTo value task row k limit b e steps steps' o
forced_from value task row limit k b c e steps steps' None keeps is = forced_here value task row limit k b c e steps steps' keeps is
forced_from value task row limit k b c e steps steps' (Some (blocked.Empty z)) keeps is = (
  subst (λ p. Counts limit b p steps steps') (sym is.1) (record { counted = keeps.counted; within = keeps.within }),
  is.0,
  λ i ne. ap (λ p. get_or p.states.items i state.Waiting) is.1 ∙ ap (λ v. get_or v.items i state.Waiting) keeps.states,
)
forced_from value task row limit k b c e steps steps' (Some blocked.Stalled) keeps is = absurd is

-- what comes behind a drive that keeps the kept rows, as the end of the whole
pub forced_through : {N : Type 0} (value : N → ℚ) (task : Task N) (row limit : ℕ) (k : RowKind) (up : Bool) (a b c e : Progress N) (steps mid steps' : ℕ) (o : Option (Blocked N))
    → Settles value task row (driven_state_of up) a b → Keeps value task limit b c steps mid → ForcesTo value task row k limit c e mid steps' o → ForcesTo value task row k limit a e steps steps' o
forced_through value task row limit k up a b c e steps mid steps' None first keeps is = (
  counts_on value task row limit (driven_state_of up) a b c e steps mid steps' first keeps is.0,
  record {
    progress = is.1.progress;
    states = is.1.states ∙ ap (λ v. set v.items row (in_force k)) keeps.states ∙ ap (λ xs. set xs row (in_force k)) first.states ∙ set_twice a.states.items row (driven_state_of up) (in_force k);
  },
)
forced_through value task row limit k up a b c e steps mid steps' (Some (blocked.Empty z)) first keeps is = (
  counts_on value task row limit (driven_state_of up) a b c e steps mid steps' first keeps is.0,
  is.1,
  λ i ne. is.2 i ne ∙ others_after value task row limit (driven_state_of up) a b c steps mid first keeps i ne,
)
forced_through value task row limit k up a b c e steps mid steps' (Some blocked.Stalled) first keeps is = (counts_on value task row limit (driven_state_of up) a b c e steps mid steps' first keeps is.0, is.1)
