use Rattle.std.proofs.Common.{◌≡◌}
use Rattle.exact_simplex.proofs.multipliers.take_all_away.Given as goal

abbrev pub invariant-loop-row : goal.invariant-loop-row
invariant-loop-row g l = g.A.Arith.wides l.arith ≡ g.A.Arith.wides l.fn.arith
