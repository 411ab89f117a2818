use Rattle.std.proofs.Common.{◌≡◌, ◌+◌, ◌<◌, ◌≤◌, ◌++◌, drop}
use Rattle.std.specs.List.{AllByRecursion}
use Rattle.packing_model.specs.Runs.{merged, no_run}
use Rattle.packing_model.proofs.runs.add_runs.Given as goal

abbrev pub invariant-loop-row : goal.invariant-loop-row
invariant-loop-row l = record {
  rest : l.runs.items ++ merged l.run (drop l.row-index l.rows) ≡ l.fn.runs.items ++ merged no_run l.rows;
  low : l.run.first + l.run.count ≤ 4000;
  rows : AllByRecursion (λ r. r < 4000) (drop l.row-index l.rows);
}
