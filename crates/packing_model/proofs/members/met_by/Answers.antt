use Rattle.std.proofs.Common.{arith, inl, inr, length}
use Rattle.packing_model.specs.Runs.{no_run}
use Rattle.packing_model.proofs.MarkLemmas.{in_runs_at, run_below}
use Rattle.packing_model.proofs.members.met_by.Goals as goal

pub join_run-requires-clause-known : goal.join_run-requires-clause-known
join_run-requires-clause-known c = run_below (length c.args.rows.now) c.args.runs.now c.loop-run.run-index no_run c.requires.known (omega arith)

pub join_run-requires-clause-low : goal.join_run-requires-clause-low
join_run-requires-clause-low c = run_below 4000 c.args.runs.now c.loop-run.run-index no_run c.requires.low (omega arith)

pub loop-run-preserved : goal.loop-run-preserved
loop-run-preserved c = λ j h. elim (c.join_run.ensures j h) [
  | inl was ↦ c.loop-run.invariant j was
  | inr came ↦ record { row = came.row; within = in_runs_at c.args.runs.now c.loop-run.run-index no_run came.row (omega arith) came.within; set = came.set }
]
