use Rattle.std.proofs.Common.{arith, ◌||◌}
use Rattle.std.proofs.lemmas.Bool.{or_right}
use Rattle.packing_model.specs.NodeMarks.{mark_at, in_run}
use Rattle.packing_model.proofs.MarkLemmas.{only_set, only_same, in_run_at}
use Rattle.packing_model.proofs.node_marks.fill_run.Goals as goal

pub loop-row-init : goal.loop-row-init
loop-row-init c = only_same c.args.filled.now (in_run c.args.run)

pub loop-row-preserved : goal.loop-row-preserved
loop-row-preserved c =
    let row = c.loop-row.row in
    only_set (λ r. mark_at c.args.filled.now r || in_run c.args.run r) c.loop-row.filled row c.loop-row.invariant
    (or_right (mark_at c.args.filled.now row) (in_run c.args.run row) (in_run_at c.args.run row (omega arith) (omega arith)))
