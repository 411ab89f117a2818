use Rattle.packing_model.proofs.FixingLemmas.{popped}
use Rattle.packing_model.proofs.fixing.Fixing.drop_one.Goals as goal

pub returns-clause-one : goal.returns-clause-one
returns-clause-one c = popped c.args.self.now.one _ c.pop.result c.pop.ensures
