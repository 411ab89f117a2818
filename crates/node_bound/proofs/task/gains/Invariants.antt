use Rattle.std.proofs.Common.{◌≡◌, ◌++◌, drop}
use Rattle.std.specs.Prelude.{map}
use Rattle.node_bound.proofs.task.gains.Given as goal

abbrev pub invariant-loop-pattern : goal.invariant-loop-pattern
invariant-loop-pattern g l = l.gains ++ map (g.O.Objective.weight l.at.objective.now l.at.level) (drop l.pattern-index l.patterns) ≡ map (g.O.Objective.weight l.at.objective.now l.at.level) l.patterns
