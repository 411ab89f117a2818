use Rattle.std.proofs.Common.{◌∙◌, sym, subst}
use Rattle.exact_num.specs.Ops.{zero_ℚ}
use Rattle.exact_num.specs.Order.{◌≤ℚ◌, <ℚ-≤ℚ}
use Rattle.simplex_tableau.specs.declared.state.RowState.TheVariants as state
use Rattle.exact_simplex.specs.declared.task.RowKind.TheVariants as kind
use Rattle.exact_simplex.proofs.ForceLemmas.{waiting_suits, point_is, okay_zero}
use Rattle.exact_simplex.proofs.rows.lead_row.Goals as goal

pub set_state-requires-clause-suits : goal.set_state-requires-clause-suits
set_state-requires-clause-suits g c =
    let value = g.N.Fraction.value in
    let p = c.args.progress.now in
    waiting_suits value c.args.task.now c.args.row state.AtLeast p c.requires.progress c.requires.row c.requires.waits
    (okay_zero kind.AtMost _ (point_is value c.args.task.now c.args.row p c.index.result.now c.requires.progress c.requires.row c.index.ensures ∙ c.in-Equal-sign.ensures))

pub set_state-requires-in-Greater-clause-suits : goal.set_state-requires-in-Greater-clause-suits
set_state-requires-in-Greater-clause-suits g c =
    let value = g.N.Fraction.value in
    let p = c.args.progress.now in
    waiting_suits value c.args.task.now c.args.row state.AtLeast p c.requires.progress c.requires.row c.requires.waits
    (subst (λ q. zero_ℚ ≤ℚ q) (sym (point_is value c.args.task.now c.args.row p c.index.result.now c.requires.progress c.requires.row c.index.ensures)) (<ℚ-≤ℚ zero_ℚ (value c.index.result.now) c.in-Greater.ensures))
