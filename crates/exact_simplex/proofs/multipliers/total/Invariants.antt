use Rattle.std.proofs.Common.{◌≡◌}
use Rattle.simplex_tableau.specs.Dense.{num}
use Rattle.simplex_tableau.specs.Pivot.{dot}
use Rattle.exact_simplex.proofs.multipliers.total.Given as goal

abbrev pub invariant-loop-i : goal.invariant-loop-i
invariant-loop-i g l = record {
  wides : g.A.Arith.wides l.arith ≡ g.A.Arith.wides l.fn.arith;
  sum : g.A.Num.Fraction.value l.total ≡ dot (num g.A.Num.Fraction.value l.y) (num g.A.Num.Fraction.value l.sides) l.i;
}
