use Rattle.std.proofs.Common.{length, ◌-◌}
use Rattle.simplex_tableau.specs.Sparse.{MovesUpTo}
use Rattle.simplex_tableau.proofs.sparse.copy_before.Given as goal

abbrev pub invariant-before-2 : goal.invariant-before-2
invariant-before-2 g l = MovesUpTo g.N.Fraction.value l.target l.from l.fn.out.items l.place l.i l.out.items

abbrev pub decreases-before-2 : goal.decreases-before-2
decreases-before-2 g l = length l.target - l.i
