use Rattle.duality.specs.Packing.{Weights}
use Rattle.packing_model.specs.Built.{packing}
use Rattle.packing_model.specs.Closing.{counted}
use Rattle.packing_model.specs.Nodes.{fixed_of, stage_at}
use Rattle.node_bound.proofs.RayLaws.{no_ray_at}
use Rattle.node_bound.proofs.SolveLaws.{ray_answer, stalled_bounds}
use Rattle.node_bound.proofs.solve.solved.Goals as goal

pub unreachable-requires : goal.unreachable-requires
unreachable-requires g c =
    let at = c.args.at.now in
    let w : Weights = counted (g.O.Objective.weight at.objective.now) (g.O.Objective.floor at.objective.now) in
    no_ray_at at.model.now w (stage_at at.level at.targets.now at.best at.pool.now) (fixed_of at.fixing.now) c.args.task.now c.in-Ok-Ray.field-0-0 c.laws.ensures.problem c.requires.task
    (ray_answer c.args.task.now.lp _ _ _ _ c.in-Ok-Ray.field-0 c.in-Ok-Ray.field-0-0 c.in-Ok-Ray.field-0-is c.in-Ok-Ray.ensures.answers)

pub returns-in-Ok-Stalled-clause-bounds : goal.returns-in-Ok-Stalled-clause-bounds
returns-in-Ok-Stalled-clause-bounds g c =
    let at = c.args.at.now in
    let w : Weights = counted (g.O.Objective.weight at.objective.now) (g.O.Objective.floor at.objective.now) in
    let spent = stalled_bounds (packing at.model.now) w (stage_at at.level at.targets.now at.best at.pool.now) (fixed_of at.fixing.now) c.args.task.now _ _ _ _ c.in-Ok-Stalled.field-0 c.in-Ok-Stalled.pivots c.requires.task c.in-Ok-Stalled.field-0-is c.in-Ok-Stalled.ensures.answers in
    (spent.0, spent.1, c.requires.free)
