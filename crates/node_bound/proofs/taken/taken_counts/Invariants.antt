use Rattle.std.proofs.Common.{drop}
use Rattle.packing_model.specs.Built.{packing}
use Rattle.packing_model.specs.Closing.{counted}
use Rattle.packing_model.specs.Nodes.{stage_at}
use Rattle.node_bound.specs.Taken.{AreCounts}
use Rattle.node_bound.proofs.taken.taken_counts.Given as goal

abbrev pub invariant-loop-pattern : goal.invariant-loop-pattern
invariant-loop-pattern g l = AreCounts (packing l.at.model.now) (counted (g.O.Objective.weight l.at.objective.now) (g.O.Objective.floor l.at.objective.now)) (stage_at l.at.level l.at.targets.now l.at.best l.at.pool.now) l.places l.one (drop l.pattern-index l.one) l.counts.items
