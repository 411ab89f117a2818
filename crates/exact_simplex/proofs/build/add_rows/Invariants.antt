use Rattle.std.proofs.Common.{◌≡◌}
use Rattle.exact_simplex.specs.Build.{AddsFirst}
use Rattle.exact_simplex.proofs.build.add_rows.Given as goal

abbrev pub invariant-loop-i : goal.invariant-loop-i
invariant-loop-i g l = record {
  wides : g.A.Arith.wides l.arith ≡ g.A.Arith.wides l.fn.arith;
  so_far : AddsFirst g.A.Num.Fraction.value l.fn.lists l.rows l.i l.lists;
}
