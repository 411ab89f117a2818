use Rattle.std.proofs.Common.{take}
use Rattle.search_nodes.specs.Marks.{Fills, in_runs}
use Rattle.search_nodes.proofs.marks.fill.Given as goal

abbrev pub invariant-loop-run : goal.invariant-loop-run
invariant-loop-run l = Fills l.pattern (in_runs (take l.run-index l.runs)) l.initial.fillers.items l.fillers.items
