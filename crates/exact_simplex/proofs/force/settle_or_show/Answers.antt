use Rattle.std.proofs.Common.{◌∙◌, sym, subst, refl}
use Rattle.exact_simplex.specs.Force.{SuitsAt}
use Rattle.exact_simplex.proofs.ForceLemmas.{suits_here, point_is, okay_zero}
use Rattle.exact_simplex.proofs.force.settle_or_show.Goals as goal

pub set_state-requires-clause-suits : goal.set_state-requires-clause-suits
set_state-requires-clause-suits g c =
    let value = g.A.Num.Fraction.value in
    let p = c.args.progress.now in
    let end = c.requires.end in
    subst (λ s. SuitsAt value c.args.task.now p c.args.row s) (sym c.state_in_force.ensures)
    (suits_here value c.args.task.now c.args.row _ p end.progress c.requires.row end.own_place (okay_zero c.args.kind _ (point_is value c.args.task.now c.args.row p c.index.result.now end.progress c.requires.row c.index.ensures ∙ c.if-is_zero.ensures)))

pub returns : goal.returns
returns g c =
    let value = g.A.Num.Fraction.value in
    let p = c.args.progress.now in
    let end = c.requires.end in (
      c.in_ok-shown.ensures.0,
      (
        record {
          up = c.args.up;
          goes = c.requires.goes;
          y = c.args.y.items;
          stuck = end;
          some = λ e. c.if-is_zero.ensures (sym (point_is value c.args.task.now c.args.row p c.index.result.now end.progress c.requires.row c.index.ensures) ∙ e);
          shown = c.in_ok-shown.ensures.1;
        },
        refl,
      ),
    )
