use Rattle.packing_model.specs.Built.{packing}
use Rattle.search_nodes.specs.Paths.{IsWalk}
use Rattle.worked_search.proofs.bounds.fix_each.Given as goal

abbrev pub invariant-loop-pattern : goal.invariant-loop-pattern
invariant-loop-pattern l = IsWalk (packing l.model) l.walk
