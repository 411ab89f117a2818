use Rattle.std.proofs.Common.{◌≡◌, length}
use Rattle.exact_simplex.proofs.start.tie_sides.Given as goal

abbrev pub invariant-loop-i : goal.invariant-loop-i
invariant-loop-i g l = record {
  wides : g.A.Arith.wides l.arith ≡ g.A.Arith.wides l.fn.arith;
  one_each : length l.ties.items ≡ l.i;
}
