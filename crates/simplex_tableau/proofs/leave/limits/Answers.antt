use Rattle.std.proofs.Common.{sym, subst}
use Rattle.simplex_tableau.specs.States.{Limited}
use Rattle.simplex_tableau.proofs.StatesLaws.{limited_none, limited_up, limited_down}
use Rattle.simplex_tableau.proofs.leave.limits.Goals as goal

pub returns-in-Less : goal.returns-in-Less
returns-in-Less g c =
    let d = g.N.Fraction.value c.args.number in
    subst (λ b. Limited c.args.state d b) (sym c.is_limited_below.ensures) (limited_down c.args.state d c.in-Less.ensures)

pub returns-in-Equal : goal.returns-in-Equal
returns-in-Equal g c = limited_none c.args.state (g.N.Fraction.value c.args.number) c.in-Equal.ensures

pub returns-in-Greater : goal.returns-in-Greater
returns-in-Greater g c =
    let d = g.N.Fraction.value c.args.number in
    subst (λ b. Limited c.args.state d b) (sym c.is_limited_above.ensures) (limited_up c.args.state d c.in-Greater.ensures)
