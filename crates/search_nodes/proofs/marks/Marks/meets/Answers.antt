use Rattle.std.proofs.Common.{arith}
use Rattle.search_nodes.specs.Marks.{is_filled}
use Rattle.search_nodes.proofs.MarkLaws.{no_run, in_runs_at, in_runs_later}
use Rattle.search_nodes.proofs.marks.Marks.meets.Goals as goal

pub returns-then-meets_run-clause-some : goal.returns-then-meets_run-clause-some
returns-then-meets_run-clause-some c = λ _.
    let met = c.meets_run.ensures.some c.if-meets_run.true in
    record { row = met.0; in_run = in_runs_at c.args.runs.now c.loop-run.run-index no_run met.0 (omega arith) met.1 met.2; filled = met.3 }

pub loop-run-preserved : goal.loop-run-preserved
loop-run-preserved c = λ r h.
    in_runs_later c.args.runs.now c.loop-run.run-index (is_filled c.args.self.now) (omega arith) c.loop-run.invariant (c.meets_run.ensures.none c.if-meets_run.false) r h
