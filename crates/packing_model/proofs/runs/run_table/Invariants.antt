use Rattle.packing_model.specs.Keys.{AreRuns}
use Rattle.packing_model.proofs.runs.run_table.Given as goal

abbrev pub invariant-loop-i : goal.invariant-loop-i
invariant-loop-i l = AreRuns l.p l.numbers l.s l.i l.i l.table.runs.items l.table.starts.items
