use Rattle.std.proofs.Common.{◌∙◌, sym, subst}
use Rattle.exact_simplex.specs.Force.{SuitsAt, Settles}
use Rattle.exact_simplex.proofs.ForceLemmas.{suits_here, point_is, okay_zero, settled_here}
use Rattle.exact_simplex.proofs.force.settle_or_drive.Goals as goal

pub set_state-requires-clause-suits : goal.set_state-requires-clause-suits
set_state-requires-clause-suits g c =
    let value = g.A.Num.Fraction.value in
    let p = c.args.progress.now in
    let is = c.requires.driven in
    subst (λ s. SuitsAt value c.args.task.now p c.args.row s) (sym c.state_in_force.ensures)
    (suits_here value c.args.task.now c.args.row _ p is.progress c.requires.row is.own_place (okay_zero c.args.kind _ (point_is value c.args.task.now c.args.row p c.index.result.now is.progress c.requires.row c.index.ensures ∙ c.if-is_zero.ensures)))

pub returns-then-is_zero-clause-ends : goal.returns-then-is_zero-clause-ends
returns-then-is_zero-clause-ends g c =
    let value = g.A.Num.Fraction.value in
    let t = c.args.task.now in
    let second = subst (λ s. Settles value t c.args.row s c.args.progress.now c.set_state.new.progress) c.state_in_force.ensures c.set_state.ensures in
    (c.in_ok-keep_extreme.ensures.0, settled_here value t c.args.row c.args.limit c.args.kind c.args.progress.now c.set_state.new.progress c.args.steps.now c.requires.within second)
