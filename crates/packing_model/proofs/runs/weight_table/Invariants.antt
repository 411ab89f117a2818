use Rattle.packing_model.specs.Keys.{AreWeights}
use Rattle.packing_model.proofs.runs.weight_table.Given as goal

abbrev pub invariant-loop-i : goal.invariant-loop-i
invariant-loop-i l = AreWeights l.p l.s l.i l.table.items
