use Rattle.std.proofs.Common.{arith, get_or, ◌||◌}
use Rattle.std.proofs.lemmas.Bool.{or_right}
use Rattle.packing_model.specs.NodeMarks.{mark_at, in_run, in_runs}
use Rattle.packing_model.specs.Runs.{no_run}
use Rattle.packing_model.proofs.MarkLemmas.{only_added, only_same, in_runs_at, run_below}
use Rattle.packing_model.proofs.node_marks.fill.Goals as goal

pub loop-run-init : goal.loop-run-init
loop-run-init c = only_same c.args.filled.now (in_runs c.args.runs.now)

pub fill_run-requires : goal.fill_run-requires
fill_run-requires c = run_below 4000 c.args.runs.now c.loop-run.run-index no_run c.requires (omega arith)

pub loop-run-preserved : goal.loop-run-preserved
loop-run-preserved c =
    let runs = c.args.runs.now in
    let i = c.loop-run.run-index in
    only_added (λ r. mark_at c.args.filled.now r || in_runs runs r) (in_run (get_or runs i no_run)) c.loop-run.filled c.fill_run.new.filled c.loop-run.invariant
    (λ r h. or_right (mark_at c.args.filled.now r) (in_runs runs r) (in_runs_at runs i no_run r (omega arith) h)) c.fill_run.ensures
