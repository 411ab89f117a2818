use Rattle.exact_simplex.specs.Task.{int_at}
use Rattle.node_bound.specs.Amounts.{IsListed}
use Rattle.node_bound.proofs.amounts.listed.Given as goal

abbrev pub invariant-loop-pattern : goal.invariant-loop-pattern
invariant-loop-pattern l = IsListed (int_at l.amounts) l.pattern l.entries
