use Rattle.std.proofs.Common.{◌≡◌, ◌≤◌, ◌-◌, ◌*◌, ◌^◌, ◌+ℤ◌, drop, length}
use Rattle.numbers.specs.Sums.{total}
use Rattle.duality.specs.Runs.{rows_in}
use Rattle.duality.specs.Sums.{times_of, IsWithin, AreInTable}
use Rattle.duality.proofs.row_sums.RowSums.priced_runs.Given as goal

abbrev pub invariant-loop-run : goal.invariant-loop-run
invariant-loop-run l = record {
  rest : l.sum +ℤ total (times_of l.self.terms.now) (rows_in (drop l.run-index l.runs)) ≡ total (times_of l.self.terms.now) (rows_in l.runs);
  fewer : length (rows_in (drop l.run-index l.runs)) ≤ length (rows_in l.runs);
  small : IsWithin ((length (rows_in l.runs) - length (rows_in (drop l.run-index l.runs))) * 10 ^ 24) l.sum;
  low : AreInTable (length l.self.below.now) (drop l.run-index l.runs);
}
