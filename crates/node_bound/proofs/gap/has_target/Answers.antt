use Rattle.packing_model.specs.Built.{packing}
use Rattle.node_bound.proofs.GuessedLaws.{entries_are}
use Rattle.node_bound.proofs.gap.has_target.Goals as goal

pub sum_of-sum-requires-clause-point : goal.sum_of-sum-requires-clause-point
sum_of-sum-requires-clause-point g c = entries_are (packing c.args.at.now.model.now) (g.O.Objective.count c.args.at.now.objective.now) c.args.point.now c.requires.node.counted c.requires.point
