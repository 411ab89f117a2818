-- Laws of specs/Enter.
use Rattle.std.proofs.Common.{ℕ, ◌≡◌, ◌<◌, List, length, Bool, true, false, not, Option, Some, subst}
use Rattle.exact_num.specs.Q.{ℚ}
use Rattle.exact_num.specs.Ops.{zero_ℚ}
use Rattle.exact_num.specs.Order.{◌≤ℚ◌, ◌<ℚ◌, <ℚ-≤ℚ, <ℚ-not-≤ℚ, ≤ℚ_refl}
use Rattle.exact_simplex.specs.declared.progress.Task.{Task}
use Rattle.simplex_tableau.specs.States.{state_of}
use Rattle.simplex_tableau.specs.declared.state.RowState.{RowState}
use Rattle.simplex_tableau.specs.declared.state.RowState.TheVariants as state
use Rattle.exact_simplex.specs.Enter.{Chooses, Helping}

pub helping_less : (up : Bool) (q : ℚ) → q <ℚ zero_ℚ → Helping up q up
helping_less true q h = h
helping_less false q h = λ k. <ℚ-not-≤ℚ q zero_ℚ h (<ℚ-≤ℚ zero_ℚ q k)

pub helping_none : (up : Bool) (q : ℚ) → q ≡ zero_ℚ → Helping up q false
helping_none true q e = λ h. <ℚ-not-≤ℚ q zero_ℚ h (subst (λ z. z ≤ℚ q) e (≤ℚ_refl q))
helping_none false q e = λ h. <ℚ-not-≤ℚ zero_ℚ q h (subst (λ z. q ≤ℚ z) e (≤ℚ_refl q))

pub helping_more : (up : Bool) (q : ℚ) → zero_ℚ <ℚ q → Helping up q (not up)
helping_more true q h = λ k. <ℚ-not-≤ℚ q zero_ℚ k (<ℚ-≤ℚ zero_ℚ q h)
helping_more false q h = h

-- what was chosen may come in, in the words of the caller
pub chosen_may : {N : Type 0} (value : N → ℚ) (task : Task N) (states states' : List RowState) (y : List N) (up : Bool) (o : Option ℕ) (v : ℕ) → o ≡ Some v → states' ≡ states → Chooses value task states' y up o → state_of task.columns states v ≡ state.AtLeast
chosen_may value task states states' y up o v is same chosen = subst (λ s. state_of task.columns s v ≡ state.AtLeast) same (subst (λ q. Chooses value task states' y up q) is chosen).1.may

pub chosen_below : {N : Type 0} (value : N → ℚ) (task : Task N) (states' : List RowState) (y : List N) (up : Bool) (o : Option ℕ) (v : ℕ) → o ≡ Some v → Chooses value task states' y up o → v < length task.lists.items
chosen_below value task states' y up o v is chosen = (subst (λ q. Chooses value task states' y up q) is chosen).0
