use Rattle.std.proofs.Common.{sym}
use Rattle.duality.specs.Packing.{Weights}
use Rattle.duality.specs.Walk.{fixing_of}
use Rattle.packing_model.specs.Built.{packing}
use Rattle.packing_model.specs.Closing.{counted}
use Rattle.packing_model.specs.Nodes.{stage_at}
use Rattle.search_nodes.specs.Paths.{path_of}
use Rattle.branch_tree.specs.Growths.{value_of}
use Rattle.branch_tree.proofs.FractionLaws.{fractional_branch, fractional_some}
use Rattle.branch_tree.proofs.state.Growth.split_point.Goals as goal

pub split-requires-clause-free : goal.split-requires-clause-free
split-requires-clause-free g c =
    let at = c.args.at.now in
    let w : Weights = counted (g.O.Objective.weight at.objective.now) (g.O.Objective.floor at.objective.now) in
    let self = c.args.self.now in
    fractional_branch (packing at.model.now) w (stage_at at.level at.targets.now (value_of self.held) c.args.pool.now) (fixing_of (path_of self.walk.path)) c.args.point c.in-Some.pattern c.requires.gap (sym c.in-Some.ensures)

pub unreachable-requires : goal.unreachable-requires
unreachable-requires g c = fractional_some c.args.point.den c.args.point.entries (sym c.in-None.ensures) c.requires.gap.in_part
