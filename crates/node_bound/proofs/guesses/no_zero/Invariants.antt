use Rattle.std.proofs.Common.{◌≡◌, drop}
use Rattle.node_bound.specs.Guessed.{no_zero}
use Rattle.node_bound.proofs.guesses.no_zero.Given as goal

abbrev pub invariant-loop-term : goal.invariant-loop-term
invariant-loop-term l = no_zero (drop l.term-index l.terms) ≡ no_zero l.terms
