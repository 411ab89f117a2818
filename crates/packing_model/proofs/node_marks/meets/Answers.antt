use Rattle.std.proofs.Common.{arith}
use Rattle.packing_model.specs.Runs.{no_run}
use Rattle.packing_model.proofs.MarkLemmas.{in_runs_at, run_below}
use Rattle.packing_model.proofs.node_marks.meets.Goals as goal

pub returns-then-meets_run : goal.returns-then-meets_run
returns-then-meets_run c = λ _.
    let met = c.meets_run.ensures c.if-meets_run.true in
    record { row = met.row; within = in_runs_at c.args.runs.now c.loop-run.run-index no_run met.row (omega arith) met.within; marked = met.marked }

pub meets_run-requires : goal.meets_run-requires
meets_run-requires c = run_below 4000 c.args.runs.now c.loop-run.run-index no_run c.requires (omega arith)
