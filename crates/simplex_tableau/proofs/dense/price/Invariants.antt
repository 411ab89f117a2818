use Rattle.std.proofs.Common.{◌≡◌, drop}
use Rattle.exact_num.specs.Ops.{◌+ℚ◌}
use Rattle.simplex_tableau.specs.Sparse.{dot_with}
use Rattle.simplex_tableau.specs.Dense.{num}
use Rattle.simplex_tableau.proofs.dense.price.Given as goal

abbrev pub invariant-loop-entry : goal.invariant-loop-entry
invariant-loop-entry g l = record {
  wides : g.A.Arith.wides l.arith ≡ g.A.Arith.wides l.fn.arith;
  sum : g.A.Num.Fraction.value l.total +ℚ dot_with g.A.Num.Fraction.value (num g.A.Num.Fraction.value l.y) (drop l.entry-index l.column) ≡ dot_with g.A.Num.Fraction.value (num g.A.Num.Fraction.value l.y) l.column;
}
