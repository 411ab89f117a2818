use Rattle.std.proofs.Common.{◌≡◌, ◌-◌, length}
use Rattle.numbers.specs.Below.{first_from}
use Rattle.duality.specs.Leaf.{costs}
use Rattle.meeting_patterns.specs.Pattern.{patterns_of}
use Rattle.packing_model.specs.Built.{packing}
use Rattle.packing_model.specs.Nodes.{fixed_of, stage_at}
use Rattle.packing_model.specs.Closing.{counted}
use Rattle.packing_model.proofs.costs.test_by_marks.Given as goal

abbrev pub invariant-loop-pattern : goal.invariant-loop-pattern
invariant-loop-pattern g l =
    first_from (costs (packing l.at.model.now) (counted (g.O.Objective.weight l.at.objective.now) (g.O.Objective.floor l.at.objective.now)) (stage_at l.at.level l.at.targets.now l.at.best l.at.pool.now) (fixed_of l.at.fixing.now) l.leaf) 0 (length (patterns_of l.at.model.now))
    ≡ first_from (costs (packing l.at.model.now) (counted (g.O.Objective.weight l.at.objective.now) (g.O.Objective.floor l.at.objective.now)) (stage_at l.at.level l.at.targets.now l.at.best l.at.pool.now) (fixed_of l.at.fixing.now) l.leaf) l.pattern (length (patterns_of l.at.model.now) - l.pattern)
