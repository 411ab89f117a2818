use Rattle.std.proofs.Common.{[], length}
use Rattle.packing_model.specs.Closing.{counted}
use Rattle.packing_model.specs.Built.{packing}
use Rattle.branch_tree.specs.Logs.{Beginning, IsLogged, moment}
use Rattle.branch_tree.specs.Growths.{IsGrowth, Goes, room, value_of}
use Rattle.branch_tree.proofs.tree.grow_tree.Given as goal

abbrev pub invariant-nodes : goal.invariant-nodes
invariant-nodes g l = record {
  kept : IsGrowth l.at.model.now (counted (g.O.Objective.weight l.at.objective.now) (g.O.Objective.floor l.at.objective.now)) l.at.level l.at.targets.now l.pool l.growth;
  logged : (b : Beginning) → IsLogged (packing l.at.model.now) (counted (g.O.Objective.weight l.at.objective.now) (g.O.Objective.floor l.at.objective.now)) l.at.level l.at.targets.now b [] l.fn.pool (value_of l.fn.held) l.fn.log.units l.fn.log.cuts (moment (g.A.Arith.wides l.fn.arith) l.fn.steps (length l.fn.pool)) → IsLogged (packing l.at.model.now) (counted (g.O.Objective.weight l.at.objective.now) (g.O.Objective.floor l.at.objective.now)) l.at.level l.at.targets.now b l.growth.nodes l.pool (value_of l.growth.held) l.log.units l.log.cuts (moment (g.A.Arith.wides l.arith) l.steps (length l.pool));
  goes : Goes l.fn.held l.growth.held [] l.growth.nodes l.fn.pool l.pool l.fn.budget.left l.budget.left;
}

abbrev pub decreases-nodes : goal.decreases-nodes
decreases-nodes g l = room l.growth (length l.pool) l.budget.left
