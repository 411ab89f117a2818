use Rattle.std.proofs.Common.{arith, refl}
use Rattle.packing_model.proofs.BitLemmas.{bit_set}
use Rattle.packing_model.proofs.members.set_bit.Goals as goal

pub returns : goal.returns
returns c i h = bit_set c.args.bits.now c.args.j _ i refl (omega (arith, c.requires)) h
