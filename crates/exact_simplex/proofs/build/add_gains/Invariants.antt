use Rattle.std.proofs.Common.{◌≡◌}
use Rattle.exact_simplex.specs.Build.{AddsGainsTo}
use Rattle.exact_simplex.proofs.build.add_gains.Given as goal

abbrev pub invariant-loop-j : goal.invariant-loop-j
invariant-loop-j g l = record {
  wides : g.A.Arith.wides l.arith ≡ g.A.Arith.wides l.fn.arith;
  so_far : AddsGainsTo g.A.Num.Fraction.value l.fn.lists l.place l.gain l.j l.lists;
}
