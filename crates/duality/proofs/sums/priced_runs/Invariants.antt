use Rattle.std.proofs.Common.{◌≡◌, ◌≤◌, ◌-◌, ◌*◌, ◌^◌, ◌+ℤ◌, drop, length}
use Rattle.numbers.specs.Sums.{total}
use Rattle.duality.specs.Runs.{rows_in, AreBelow}
use Rattle.duality.specs.Sums.{times_of, IsWithin}
use Rattle.duality.proofs.sums.priced_runs.Given as goal

abbrev pub invariant-loop-run : goal.invariant-loop-run
invariant-loop-run l = record {
  rest : l.sum +ℤ total (times_of l.terms) (rows_in (drop l.run-index l.runs)) ≡ total (times_of l.terms) (rows_in l.runs);
  fewer : length (rows_in (drop l.run-index l.runs)) ≤ length (rows_in l.runs);
  small : IsWithin ((length (rows_in l.runs) - length (rows_in (drop l.run-index l.runs))) * 10 ^ 24) l.sum;
  low : AreBelow 4000 (drop l.run-index l.runs);
}
