use Rattle.std.proofs.Common.{◌≡◌, ◌+◌, ◌-◌, ◌*◌, ◌^◌, ◌+ℤ◌}
use Rattle.numbers.specs.Sums.{total}
use Rattle.duality.specs.Runs.{rows_from}
use Rattle.duality.specs.Sums.{times_of, IsWithin}
use Rattle.duality.proofs.sums.priced_run.Given as goal

abbrev pub invariant-loop-row : goal.invariant-loop-row
invariant-loop-row l = record {
  rest : l.sum +ℤ total (times_of l.terms) (rows_from l.row (l.fn.run.first + l.fn.run.count - l.row)) ≡ total (times_of l.terms) (rows_from l.fn.run.first l.fn.run.count);
  small : IsWithin ((l.row - l.fn.run.first) * 10 ^ 24) l.sum;
}
