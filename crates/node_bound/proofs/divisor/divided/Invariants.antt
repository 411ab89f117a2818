use Rattle.std.proofs.Common.{ℕ, ◌≡◌, ◌<◌, length}
use Rattle.std.specs.Prelude.{◌*ℤ◌}
use Rattle.exact_simplex.specs.Task.{int_at}
use Rattle.node_bound.proofs.divisor.divided.Given as goal

abbrev pub invariant-loop-number : goal.invariant-loop-number
invariant-loop-number l = record {
  one_each : length l.parts ≡ l.number-index;
  each : (i : ℕ) → i < l.number-index → int_at l.parts i *ℤ l.divisor ≡ int_at l.numbers i;
}
