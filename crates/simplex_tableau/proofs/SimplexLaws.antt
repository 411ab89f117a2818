-- Laws of specs/Simplex.
use Rattle.std.proofs.Common.{ℕ, ◌≡◌, ◌≢◌, ◌+◌, ◌-◌, ◌<◌, sym, ◌∙◌, ap, subst, List, get_or, arith, if◌then◌else◌, Bool, true, false, refl}
use Rattle.std.specs.Prelude.{nat_lt}
use Rattle.std.proofs.Math.Decide.{ℕ_discrete}
use Rattle.exact_num.specs.Q.{ℚ}
use Rattle.exact_num.specs.Ops.{zero_ℚ}
use Rattle.exact_num.specs.Order.{◌≤ℚ◌}
use Rattle.simplex_tableau.specs.Pivot.{IsPivoted}
use Rattle.simplex_tableau.specs.States.{Okay, Limits, state_of}
use Rattle.simplex_tableau.proofs.StatesLaws.{stays, step_sign}
use Rattle.simplex_tableau.specs.declared.state.RowState.{RowState}
use Rattle.simplex_tableau.specs.declared.state.RowState.TheVariants as state
use Rattle.simplex_tableau.specs.Simplex.{IsFeasible, Leaves}

pub state_of-column : (n : ℕ) (states : List RowState) (v : ℕ) → v < n → state_of n states v ≡ state.AtLeast
state_of-column n states v l = by_case (nat_lt v n) refl
  where
    by_case : (b : Bool) → nat_lt v n ≡ b → (if b then state.AtLeast else get_or states (v - n) state.Waiting) ≡ state.AtLeast
    by_case true e = refl
    by_case false e = absurd (grind arith)

pub state_of-slack : (n : ℕ) (states : List RowState) (i : ℕ) → state_of n states (n + i) ≡ get_or states i state.Waiting
state_of-slack n states i = by_case (nat_lt (n + i) n) refl
  where
    index : n + i - n ≡ i
    index = omega arith

    by_case : (b : Bool) → nat_lt (n + i) n ≡ b → (if b then state.AtLeast else get_or states (n + i - n) state.Waiting) ≡ get_or states i state.Waiting
    by_case true e = absurd (grind arith)
    by_case false e = ap (λ k. get_or states k state.Waiting) index

waiting_free : (s : RowState) (d : ℚ) → s ≡ state.Waiting → Limits s d → ⊥
waiting_free s d e h = subst (λ u. Limits u d) e h

module _ (size n v : ℕ) (states : List RowState) (basis basis' : ℕ → ℕ) (x x' d : ℕ → ℚ) (place : ℕ) (step : ℚ)
    (leaves : Leaves size n states basis x d place step)
    (may : state_of n states v ≡ state.AtLeast)
    (moves : IsPivoted size place d x x' step)
    (enters : basis' place ≡ v) (others : (p : ℕ) → p < size → p ≢ place → basis' p ≡ basis p) where
  pub feasible_step : IsFeasible size n states basis x → IsFeasible size n states basis' x'
  feasible_step was =
      let forward : zero_ℚ ≤ℚ step
      = subst (λ u. zero_ℚ ≤ℚ u) (sym leaves.step_is) (step_sign (state_of n states (basis place)) (x place) (d place) (was.okay place leaves.below) leaves.limits) in
      record {
        okay = λ p l.
            let go : Dec (p ≡ place) → Okay (state_of n states (basis' p)) (x' p) = elim [
              | yes e ↦
                  let at_place : Okay (state_of n states (basis' place)) (x' place)
                  = subst (λ s. Okay s (x' place)) (sym (ap (state_of n states) enters ∙ may)) (subst (λ u. zero_ℚ ≤ℚ u) (sym moves.there) forward) in
                  subst (λ q. Okay (state_of n states (basis' q)) (x' q)) (sym e) at_place
              | no ne ↦
                  subst (λ b. Okay (state_of n states b) (x' p)) (sym (others p l ne))
                  (subst (λ u. Okay (state_of n states (basis p)) u) (sym (moves.others p l ne))
                  (stays (state_of n states (basis p)) (x p) (d p) step (was.okay p l) forward (leaves.least p l)))
            ] in
            go (ℕ_discrete p place);
        own_place = λ i l waits.
            let go : Dec (i ≡ place) → basis' i ≡ n + i = elim [
              | yes e ↦
                  let waiting : state_of n states (basis place) ≡ state.Waiting
                  = ap (λ q. state_of n states (basis q)) (sym e) ∙ ap (state_of n states) (was.own_place i l waits) ∙ state_of-slack n states i ∙ waits in
                  absurd (waiting_free (state_of n states (basis place)) (d place) waiting leaves.limits)
              | no ne ↦ others i l ne ∙ was.own_place i l waits
            ] in
            go (ℕ_discrete i place);
      }
