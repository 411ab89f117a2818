use Rattle.packing_model.specs.Keys.{AreCounts}
use Rattle.packing_model.proofs.rows.count_keys.Given as goal

abbrev pub invariant-loop-i : goal.invariant-loop-i
invariant-loop-i l = AreCounts l.p l.s l.i l.counts.items
