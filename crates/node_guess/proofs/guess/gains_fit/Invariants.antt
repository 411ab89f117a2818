use Rattle.std.proofs.Common.{◌≤◌}
use Rattle.node_guess.proofs.guess.gains_fit.Given as goal

abbrev pub invariant-loop-pattern : goal.invariant-loop-pattern
invariant-loop-pattern g l = g.A.Arith.wides l.fn.arith ≤ g.A.Arith.wides l.arith
