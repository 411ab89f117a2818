use Rattle.exact_simplex.proofs.ForceLemmas.{waiting_suits}
use Rattle.simplex_tableau.specs.declared.state.RowState.TheVariants as state
use Rattle.exact_simplex.proofs.force.force_positive.Goals as goal

pub set_state-requires-clause-suits : goal.set_state-requires-clause-suits
set_state-requires-clause-suits g c =
    waiting_suits g.A.Num.Fraction.value c.args.task.now c.args.row state.AtLeast c.args.progress.now c.requires.progress c.requires.row c.requires.waits c.requires.side
