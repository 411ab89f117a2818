use Rattle.std.proofs.Common.{◌≡◌, ◌*◌, ◌^◌, ◌+ℤ◌, drop}
use Rattle.numbers.specs.Sums.{total}
use Rattle.duality.specs.Sums.{times_of, IsWithin}
use Rattle.duality.proofs.sums.priced.Given as goal

abbrev pub invariant-loop-row : goal.invariant-loop-row
invariant-loop-row l = record {
  rest : l.sum +ℤ total (times_of l.terms) (drop l.row-index l.rows) ≡ total (times_of l.terms) l.rows;
  small : IsWithin (l.row-index * 10 ^ 24) l.sum;
}
