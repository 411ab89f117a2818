use Rattle.packing_model.proofs.FixingLemmas.{popped}
use Rattle.packing_model.proofs.fixing.Fixing.drop_zero.Goals as goal

pub returns-clause-zero : goal.returns-clause-zero
returns-clause-zero c = popped c.args.self.now.zero _ c.pop.result c.pop.ensures
