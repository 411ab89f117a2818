use Rattle.simplex_tableau.specs.Sparse.{SoFar}
use Rattle.simplex_tableau.proofs.sparse.number_at.Given as goal

abbrev pub invariant-loop-entry : goal.invariant-loop-entry
invariant-loop-entry g l = SoFar g.N.Fraction.value l.vector l.place l.entry-index
