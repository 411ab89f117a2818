use Rattle.std.proofs.Common.{◌≡◌, ◌++◌, drop}
use Rattle.duality.specs.Runs.{rows_in, AreBelow}
use Rattle.node_bound.proofs.standing.push_runs.Given as goal

abbrev pub invariant-loop-run : goal.invariant-loop-run
invariant-loop-run l = record {
  rest : l.rows ++ rows_in (drop l.run-index l.runs) ≡ l.fn.rows ++ rows_in l.runs;
  low : AreBelow 4000 (drop l.run-index l.runs);
}
