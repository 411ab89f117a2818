use Rattle.exact_simplex.specs.Start.{AreSlacks}
use Rattle.exact_simplex.proofs.start.slacks.Given as goal

abbrev pub invariant-loop-i : goal.invariant-loop-i
invariant-loop-i l = AreSlacks l.first l.i l.basis.items
