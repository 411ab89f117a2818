use Rattle.std.proofs.Common.{◌≡◌, drop}
use Rattle.search_nodes.specs.Points.{entry_of}
use Rattle.node_bound.proofs.gap.entry_of.Given as goal

abbrev pub invariant-loop-entry : goal.invariant-loop-entry
invariant-loop-entry l = entry_of (drop l.entry-index l.entries) l.pattern ≡ entry_of l.entries l.pattern
