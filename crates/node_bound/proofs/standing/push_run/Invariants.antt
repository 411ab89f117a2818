use Rattle.std.proofs.Common.{◌≡◌, ◌+◌, ◌-◌, ◌++◌}
use Rattle.duality.specs.Runs.{rows_from}
use Rattle.node_bound.proofs.standing.push_run.Given as goal

abbrev pub invariant-loop-row : goal.invariant-loop-row
invariant-loop-row l = l.rows ++ rows_from l.row (l.fn.run.first + l.fn.run.count - l.row) ≡ l.fn.rows ++ rows_from l.fn.run.first l.fn.run.count
