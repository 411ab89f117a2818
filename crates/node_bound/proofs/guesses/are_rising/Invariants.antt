use Rattle.std.proofs.Common.{◌≡◌, drop}
use Rattle.duality.specs.Sums.{rises, rises_from}
use Rattle.node_bound.proofs.guesses.are_rising.Given as goal

abbrev pub invariant-loop-term : goal.invariant-loop-term
invariant-loop-term l = rises_from l.last (drop l.term-index l.rest) ≡ rises l.terms
