use Rattle.std.proofs.Common.{◌≡◌}
use Rattle.exact_simplex.proofs.multipliers.ratio_of_all.Given as goal

abbrev pub invariant-loop-variable : goal.invariant-loop-variable
invariant-loop-variable g l = g.A.Arith.wides l.arith ≡ g.A.Arith.wides l.fn.arith
