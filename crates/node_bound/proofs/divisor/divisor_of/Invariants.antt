use Rattle.std.specs.Prelude.{pos, ◌≤ℤ◌, unsigned_abs}
use Rattle.node_bound.specs.Terms.{IsGreatest}
use Rattle.node_bound.proofs.divisor.divisor_of.Given as goal

abbrev pub invariant-loop-number : goal.invariant-loop-number
invariant-loop-number l = record {
  greatest : IsGreatest (unsigned_abs l.divisor) l.scale l.numbers l.number-index;
  not_negative : pos 0 ≤ℤ l.divisor;
}
