use Rattle.packing_model.specs.Built.{packing}
use Rattle.search_nodes.specs.Paths.{IsWalk}
use Rattle.clique_cuts.proofs.rounding.walk_over.Given as goal

abbrev pub invariant-loop-entry : goal.invariant-loop-entry
invariant-loop-entry l = IsWalk (packing l.m) l.walk
