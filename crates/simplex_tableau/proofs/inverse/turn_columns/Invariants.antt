use Rattle.std.proofs.Common.{◌≡◌}
use Rattle.simplex_tableau.specs.Inverse.{TurnsSoFar}
use Rattle.simplex_tableau.proofs.inverse.turn_columns.Given as goal

abbrev pub invariant-loop-entry : goal.invariant-loop-entry
invariant-loop-entry g l = record {
  wides : g.A.Arith.wides l.arith ≡ g.A.Arith.wides l.fn.arith;
  so_far : TurnsSoFar g.A.Num.Fraction.value l.fn.inverse l.row l.less l.entry-index l.inverse;
}
