use Rattle.std.proofs.Common.{◌≡◌, length}
use Rattle.simplex_tableau.specs.Leave.{Searched}
use Rattle.simplex_tableau.proofs.leave.find_leaving.Given as goal

abbrev pub invariant-loop-entry : goal.invariant-loop-entry
invariant-loop-entry g l = record {
  wides : g.A.Arith.wides l.arith ≡ g.A.Arith.wides l.fn.arith;
  searched : Searched g.A.Num.Fraction.value (length l.tableau.point.items) l.columns l.states l.tableau l.made l.entry-index l.best;
}
