use Rattle.std.proofs.Common.{◌≡◌}
use Rattle.exact_num.specs.Ops.{inv_ℚ}
use Rattle.simplex_tableau.specs.Inverse.{RowSoFar}
use Rattle.simplex_tableau.proofs.inverse.row_over.Given as goal

abbrev pub invariant-loop-k : goal.invariant-loop-k
invariant-loop-k g l = record {
  wides : g.A.Arith.wides l.arith ≡ g.A.Arith.wides l.fn.arith;
  so_far : RowSoFar g.A.Num.Fraction.value l.inverse l.place (inv_ℚ (g.A.Num.Fraction.value l.divisor)) l.row l.k;
}
