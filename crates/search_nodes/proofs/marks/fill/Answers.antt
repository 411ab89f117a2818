use Rattle.std.proofs.Common.{arith}
use Rattle.search_nodes.proofs.MarkLaws.{no_run, runs_more}
use Rattle.search_nodes.proofs.marks.fill.Goals as goal

pub loop-run-preserved : goal.loop-run-preserved
loop-run-preserved c =
    runs_more c.args.pattern c.args.runs.now c.loop-run.run-index no_run c.args.fillers.now.items c.loop-run.fillers.items c.fill_run.new.fillers.items (omega arith) c.loop-run.invariant c.in_ok-fill_run.ensures
