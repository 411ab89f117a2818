use Rattle.std.proofs.Common.{◌≡◌, drop, take, true}
use Rattle.std.specs.List.{list_all}
use Rattle.duality.specs.Packing.{is_there}
use Rattle.duality.specs.Leaf.{terms_fault}
use Rattle.packing_model.specs.Built.{packing}
use Rattle.packing_model.specs.Nodes.{stage_at}
use Rattle.packing_model.specs.Closing.{counted}
use Rattle.packing_model.proofs.close.test_terms.Given as goal

abbrev pub invariant-loop-i : goal.invariant-loop-i
invariant-loop-i g l = record {
  rest : terms_fault (packing l.at.model.now) (counted (g.O.Objective.weight l.at.objective.now) (g.O.Objective.floor l.at.objective.now)) (stage_at l.at.level l.at.targets.now l.at.best l.at.pool.now) l.i (drop l.i l.terms) ≡ terms_fault (packing l.at.model.now) (counted (g.O.Objective.weight l.at.objective.now) (g.O.Objective.floor l.at.objective.now)) (stage_at l.at.level l.at.targets.now l.at.best l.at.pool.now) 0 l.terms;
  there : list_all (λ t. is_there (packing l.at.model.now) (counted (g.O.Objective.weight l.at.objective.now) (g.O.Objective.floor l.at.objective.now)) (stage_at l.at.level l.at.targets.now l.at.best l.at.pool.now) t.row) (take l.i l.terms) ≡ true;
}
