use Rattle.packing_model.specs.Built.{packing}
use Rattle.packing_model.specs.NodeMarks.{OnlyMarks, has_one_of}
use Rattle.packing_model.proofs.node_marks.fill_each.Given as goal

abbrev pub invariant-loop-pattern : goal.invariant-loop-pattern
invariant-loop-pattern l = OnlyMarks (has_one_of (packing l.model) l.patterns) l.filled
