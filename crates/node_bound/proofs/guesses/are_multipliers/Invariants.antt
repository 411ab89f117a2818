use Rattle.std.proofs.Common.{◌≡◌, drop}
use Rattle.duality.specs.Sums.{are_small}
use Rattle.node_bound.proofs.guesses.are_multipliers.Given as goal

abbrev pub invariant-loop-term : goal.invariant-loop-term
invariant-loop-term l = are_small (drop l.term-index l.terms) ≡ are_small l.terms
