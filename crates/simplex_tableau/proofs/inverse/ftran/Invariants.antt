use Rattle.std.proofs.Common.{ℕ, ◌≡◌, drop}
use Rattle.exact_num.specs.Ops.{◌+ℚ◌}
use Rattle.simplex_tableau.specs.Sparse.{at, dot_with, Rises}
use Rattle.simplex_tableau.specs.Inverse.{inv_of, AllRise}
use Rattle.simplex_tableau.proofs.inverse.ftran.Given as goal

abbrev pub invariant-loop-entry : goal.invariant-loop-entry
invariant-loop-entry g l = record {
  wides : g.A.Arith.wides l.arith ≡ g.A.Arith.wides l.fn.arith;
  same : (p : ℕ) → at g.A.Num.Fraction.value l.made p +ℚ dot_with g.A.Num.Fraction.value (λ k. inv_of g.A.Num.Fraction.value l.inverse k p) (drop l.entry-index l.column) ≡ dot_with g.A.Num.Fraction.value (λ k. inv_of g.A.Num.Fraction.value l.inverse k p) l.column;
  rises : (m : ℕ) → AllRise m l.inverse → Rises 0 m l.made;
}
