use Rattle.std.proofs.Common.{ℕ, length, ◌<◌, ◌≡◌, drop}
use Rattle.exact_num.specs.Ops.{◌+ℚ◌, ◌*ℚ◌}
use Rattle.simplex_tableau.specs.Sparse.{at}
use Rattle.simplex_tableau.specs.Dense.{num}
use Rattle.simplex_tableau.proofs.dense.add_times.Given as goal

abbrev pub invariant-loop-entry : goal.invariant-loop-entry
invariant-loop-entry g l = record {
  wides : g.A.Arith.wides l.arith ≡ g.A.Arith.wides l.fn.arith;
  same : (p : ℕ) → p < length l.fn.x → num g.A.Num.Fraction.value l.x p +ℚ g.A.Num.Fraction.value l.factor *ℚ at g.A.Num.Fraction.value (drop l.entry-index l.source) p ≡ num g.A.Num.Fraction.value l.fn.x p +ℚ g.A.Num.Fraction.value l.factor *ℚ at g.A.Num.Fraction.value l.source p;
}
