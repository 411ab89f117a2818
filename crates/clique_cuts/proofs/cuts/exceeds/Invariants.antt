use Rattle.clique_cuts.proofs.GivenLaws.{IsSumOf}
use Rattle.clique_cuts.proofs.cuts.exceeds.Given as goal

abbrev pub invariant-loop-pattern : goal.invariant-loop-pattern
invariant-loop-pattern l = IsSumOf l.point l.patterns l.pattern-index l.sum
