use Rattle.std.proofs.Common.{◌≡◌}
use Rattle.exact_simplex.proofs.multipliers.add_row_times.Given as goal

abbrev pub invariant-loop-i : goal.invariant-loop-i
invariant-loop-i g l = g.A.Arith.wides l.arith ≡ g.A.Arith.wides l.fn.arith
