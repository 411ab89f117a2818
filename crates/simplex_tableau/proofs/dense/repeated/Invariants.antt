use Rattle.std.proofs.Common.{◌≡◌, replicate}
use Rattle.simplex_tableau.proofs.dense.repeated.Given as goal

abbrev pub invariant-loop : goal.invariant-loop
invariant-loop g l = l.list.items ≡ replicate l.counter l.number
