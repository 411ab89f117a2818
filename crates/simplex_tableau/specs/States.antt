-- What the value at a place must be, and which steps keep it so.
use Rattle.std.proofs.Common.{ℕ, ◌≡◌, ◌≢◌, ◌-◌, List, get_or, if◌then◌else◌, Bool, true, false}
use Rattle.std.specs.Prelude.{nat_lt}
use Rattle.exact_num.specs.Q.{ℚ}
use Rattle.exact_num.specs.Ops.{zero_ℚ}
use Rattle.exact_num.specs.Order.{◌≤ℚ◌, ◌<ℚ◌}
use Rattle.simplex_tableau.specs.declared.state.RowState.{RowState}
use Rattle.simplex_tableau.specs.declared.state.RowState.TheVariants as state

abbrev pub Okay : RowState → ℚ → Type 0
Okay state.Waiting x = Unit {0}
Okay state.Above x = zero_ℚ ≤ℚ x
Okay state.Below x = x ≤ℚ zero_ℚ
Okay state.AtLeast x = zero_ℚ ≤ℚ x
Okay state.Zero x = x ≡ zero_ℚ

-- a step along d comes to an end at this place
abbrev pub Limits : RowState → ℚ → Type 0
Limits state.Waiting d = ⊥
Limits state.Above d = zero_ℚ <ℚ d
Limits state.Below d = d <ℚ zero_ℚ
Limits state.AtLeast d = zero_ℚ <ℚ d
Limits state.Zero d = d ≢ zero_ℚ

abbrev pub limited_above : RowState → Bool
limited_above state.Waiting = false
limited_above state.Above = true
limited_above state.Below = false
limited_above state.AtLeast = true
limited_above state.Zero = true

abbrev pub limited_below : RowState → Bool
limited_below state.Waiting = false
limited_below state.Above = false
limited_below state.Below = true
limited_below state.AtLeast = false
limited_below state.Zero = true

abbrev pub Limited : RowState → ℚ → Bool → Type 0
Limited s d true = Limits s d
Limited s d false = Limits s d → ⊥

-- the state of a variable: n columns, then the slacks of the rows
abbrev pub state_of : ℕ → List RowState → ℕ → RowState
state_of n states v = if nat_lt v n then state.AtLeast else get_or states (v - n) state.Waiting

-- the state of a row while its slack is driven up, or down, to 0
abbrev pub driven_state_of : Bool → RowState
driven_state_of true = state.Below
driven_state_of false = state.Above
