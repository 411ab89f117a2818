use Rattle.std.proofs.Common.{◌≡◌}
use Rattle.exact_simplex.specs.Build.{AreFirstSides}
use Rattle.exact_simplex.proofs.build.sides_of.Given as goal

abbrev pub invariant-loop-row : goal.invariant-loop-row
invariant-loop-row g l = record {
  wides : g.A.Arith.wides l.arith ≡ g.A.Arith.wides l.fn.arith;
  so_far : AreFirstSides g.A.Num.Fraction.value l.rows l.row-index l.sides.items;
}
