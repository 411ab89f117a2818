use Rattle.std.proofs.Common.{refl, arith, sym, subst}
use Rattle.simplex_tableau.proofs.SignsLaws.{num_some}
use Rattle.simplex_tableau.specs.States.{Limits}
use Rattle.simplex_tableau.proofs.StatesLaws.{limits_some}
use Rattle.simplex_tableau.proofs.LeaveLaws.{state_is, weighs_none}
use Rattle.simplex_tableau.proofs.leave.weigh.Goals as goal

pub returns-then-not-limits : goal.returns-then-not-limits
returns-then-not-limits g c =
    let value = g.A.Num.Fraction.value in
    let t = c.args.tableau.now in
    let s = state_is c.args.columns c.args.states.now t c.args.entry.place c.index.result.now c.state_at-state.result (omega arith) c.index.ensures c.state_at-state.ensures in
    (refl, weighs_none value c.args.columns c.args.states.now t c.args.best c.args.entry (λ h. c.if-not-limits.ensures (subst (λ u. Limits u (value c.args.entry.number)) (sym s) h)))

pub div-requires : goal.div-requires
div-requires g c =
    let value = g.A.Num.Fraction.value in
    num_some (value c.args.entry.number) (limits_some c.state_at-state.result (value c.args.entry.number) c.if-not-limits.ensures)

pub div-requires-2 : goal.div-requires-2
div-requires-2 g c =
    let value = g.A.Num.Fraction.value in
    num_some (value c.args.entry.number) (limits_some c.state_at-state.result (value c.args.entry.number) c.if-not-limits.ensures)
