use Rattle.std.proofs.Common.{◌≡◌, ◌<◌, ℕ, false, length}
use Rattle.numbers.specs.Sums.{member}
use Rattle.exact_simplex.specs.Task.{int_at}
use Rattle.node_bound.specs.Tasks.{column_at}
use Rattle.node_bound.proofs.amounts.give_taken.Given as goal

abbrev pub invariant-loop-pattern : goal.invariant-loop-pattern
invariant-loop-pattern l = record {
  one_each : length l.amounts.items ≡ length l.fn.amounts.items;
  given : (j : ℕ) → j < l.pattern-index → int_at l.amounts.items (column_at l.one j) ≡ l.den;
  same : (p : ℕ) → member p l.one ≡ false → int_at l.amounts.items p ≡ int_at l.fn.amounts.items p;
}
