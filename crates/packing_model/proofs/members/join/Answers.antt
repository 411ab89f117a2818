use Rattle.std.proofs.Common.{arith, refl}
use Rattle.packing_model.proofs.BitLemmas.{word_joined}
use Rattle.packing_model.proofs.members.join.Goals as goal

pub loop-word-preserved : goal.loop-word-preserved
loop-word-preserved c = word_joined c.args.met.now c.loop-word.met c.args.bits.now c.loop-word.word _ (omega arith) refl c.loop-word.invariant
