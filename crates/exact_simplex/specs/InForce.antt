-- What the slack of a row must be once the row is in force.
use Rattle.simplex_tableau.specs.declared.state.RowState.{RowState}
use Rattle.simplex_tableau.specs.declared.state.RowState.TheVariants as state
use Rattle.exact_simplex.specs.declared.task.RowKind.{RowKind}
use Rattle.exact_simplex.specs.declared.task.RowKind.TheVariants as kind

abbrev pub in_force : RowKind → RowState
in_force kind.AtMost = state.AtLeast
in_force kind.Equal = state.Zero
