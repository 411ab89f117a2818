use Rattle.std.proofs.Common.{◌≡◌, ◌<◌, ℕ, false, length}
use Rattle.numbers.specs.Sums.{member}
use Rattle.exact_simplex.specs.Task.{int_at}
use Rattle.node_bound.specs.Tasks.{column_at}
use Rattle.node_bound.proofs.amounts.give_columns.Given as goal

abbrev pub invariant-loop-column : goal.invariant-loop-column
invariant-loop-column l = record {
  one_each : length l.amounts.items ≡ length l.fn.amounts.items;
  given : (j : ℕ) → j < l.column → int_at l.amounts.items (column_at l.columns j) ≡ int_at l.x j;
  same : (p : ℕ) → member p l.columns ≡ false → int_at l.amounts.items p ≡ int_at l.fn.amounts.items p;
}
