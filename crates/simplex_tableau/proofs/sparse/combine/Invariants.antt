use Rattle.std.proofs.Common.{ℕ, length, ◌≤◌, ◌≡◌, drop}
use Rattle.exact_num.specs.Ops.{◌+ℚ◌, ◌*ℚ◌}
use Rattle.simplex_tableau.specs.Sparse.{gathered, at, Gathers, Rises}
use Rattle.simplex_tableau.proofs.sparse.combine.Given as goal

abbrev pub invariant-merge : goal.invariant-merge
invariant-merge g l = record {
  within : l.i ≤ length l.target;
  wides : g.A.Arith.wides l.arith ≡ g.A.Arith.wides l.fn.arith;
  same : (p : ℕ) → gathered g.A.Num.Fraction.value l.out.items l.target l.i (g.A.Num.Fraction.value l.factor) l.source l.entry-index p ≡ at g.A.Num.Fraction.value l.target p +ℚ g.A.Num.Fraction.value l.factor *ℚ at g.A.Num.Fraction.value l.source p;
  meet : (m : ℕ) → Rises 0 m l.target → Rises 0 m l.source → Gathers m l.out.items (drop l.i l.target) (drop l.entry-index l.source);
}
