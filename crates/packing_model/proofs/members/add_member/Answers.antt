use Rattle.std.proofs.Common.{arith, ◌∙◌, get_or}
use Rattle.packing_model.specs.NodeMarks.{in_run, in_runs}
use Rattle.packing_model.specs.Runs.{no_run}
use Rattle.packing_model.proofs.BitLemmas.{rows_added}
use Rattle.packing_model.proofs.MarkLemmas.{run_below, in_runs_at}
use Rattle.packing_model.proofs.members.add_member.Goals as goal

pub add_to_run-requires-clause-low : goal.add_to_run-requires-clause-low
add_to_run-requires-clause-low c = run_below 4000 c.args.runs.now c.loop-run.run-index no_run c.requires.low (omega arith)

pub loop-run-preserved : goal.loop-run-preserved
loop-run-preserved c =
    let runs = c.args.runs.now in
    let i = c.loop-run.run-index in
    record {
      whole = c.add_to_run.ensures.whole ∙ c.loop-run.invariant.whole;
      each = rows_added c.args.rows.now.items c.loop-run.rows.items c.add_to_run.new.rows.items c.args.j (in_runs runs) (in_run (get_or runs i no_run)) (λ r h. in_runs_at runs i no_run r (omega arith) h) c.loop-run.invariant.each c.add_to_run.ensures.each;
    }
