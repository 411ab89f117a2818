use Rattle.std.proofs.Common.{◌||◌}
use Rattle.packing_model.specs.NodeMarks.{mark_at, in_runs, OnlyMarks}
use Rattle.packing_model.proofs.node_marks.fill.Given as goal

abbrev pub invariant-loop-run : goal.invariant-loop-run
invariant-loop-run l = OnlyMarks (λ r. mark_at l.initial.filled r || in_runs l.runs r) l.filled
