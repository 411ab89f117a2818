use Rattle.packing_model.specs.Built.{packing}
use Rattle.packing_model.specs.Closing.{counted}
use Rattle.packing_model.specs.Nodes.{stage_at}
use Rattle.node_bound.specs.Places.{names_in}
use Rattle.node_bound.specs.Entries.{AreFilled}
use Rattle.node_bound.proofs.entries.fill_rows.Given as goal

abbrev pub invariant-loop-column : goal.invariant-loop-column
invariant-loop-column g l = AreFilled (packing l.at.model.now) (counted (g.O.Objective.weight l.at.objective.now) (g.O.Objective.floor l.at.objective.now)) (stage_at l.at.level l.at.targets.now l.at.best l.at.pool.now) (names_in l.places) l.columns l.column l.fn.rows l.rows
