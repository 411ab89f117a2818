use Rattle.std.proofs.Common.{get_or, arith}
use Rattle.itc_score.proofs.LineLemmas.{alone-counted}
use Rattle.itc_score.proofs.compactness.count_alone.Goals as goal

pub returns-clause-value : goal.returns-clause-value
returns-clause-value c = alone-counted (λ p. get_or c.args.counts.now p 0) c.loop-k.k c.loop-k.found (omega arith) c.loop-k.invariant.value
