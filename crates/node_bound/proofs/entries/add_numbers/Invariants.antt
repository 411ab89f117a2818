use Rattle.std.proofs.Common.{drop}
use Rattle.packing_model.specs.Closing.{counted}
use Rattle.node_bound.specs.Places.{put_total, row_number}
use Rattle.node_bound.specs.Entries.{Gives}
use Rattle.node_bound.proofs.entries.add_numbers.Given as goal

abbrev pub invariant-loop-name : goal.invariant-loop-name
invariant-loop-name g l =
    Gives l.column (λ x. put_total l.places x (row_number (counted (g.O.Objective.weight l.at.objective.now) (g.O.Objective.floor l.at.objective.now)) l.pattern) l.names) (λ x. put_total l.places x (row_number (counted (g.O.Objective.weight l.at.objective.now) (g.O.Objective.floor l.at.objective.now)) l.pattern) (drop l.name-index l.names)) l.fn.rows l.rows
