use Rattle.std.proofs.Common.{◌||◌}
use Rattle.packing_model.specs.NodeMarks.{mark_at, in_run, OnlyMarks}
use Rattle.packing_model.proofs.node_marks.fill_run.Given as goal

abbrev pub invariant-loop-row : goal.invariant-loop-row
invariant-loop-row l = OnlyMarks (λ r. mark_at l.initial.filled r || in_run l.fn.run r) l.filled
