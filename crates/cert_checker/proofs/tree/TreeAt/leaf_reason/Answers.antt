use Rattle.duality.specs.Leaf.{leaf_fault}
use Rattle.duality.specs.Packing.{Stage, Weights}
use Rattle.duality.specs.Walk.{fixing_of}
use Rattle.packing_model.specs.Built.{packing}
use Rattle.packing_model.specs.Closing.{counted}
use Rattle.packing_model.specs.Nodes.{stage_at}
use Rattle.search_nodes.specs.Paths.{path_of}
use Rattle.cert_checker.proofs.ReasonLemmas.{leaf_at_fault}
use Rattle.cert_checker.proofs.tree.TreeAt.leaf_reason.Goals as goal

pub returns-in-Err-clause-reason : goal.returns-in-Err-clause-reason
returns-in-Err-clause-reason g c =
    let tree = c.args.self.now in
    let w : Weights = counted (g.O.Objective.weight tree.objective.now) (g.O.Objective.floor tree.objective.now) in
    let s : Stage = stage_at tree.level tree.targets.now tree.best tree.pool.now in
    leaf_at_fault c.in-Err.fault (leaf_fault (packing tree.model.now) w s (fixing_of (path_of c.args.walk.now.path)) c.args.leaf.now) c.reason_of.result c.in-Err.ensures c.reason_of.ensures
