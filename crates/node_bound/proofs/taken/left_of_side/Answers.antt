use Rattle.std.proofs.Common.{rules, ◌≡◌, ◌∙◌, sym, ap, arith, SFits, to_z-of_z, []}
use Rattle.std.specs.Int.{w64}
use Rattle.duality.specs.Packing.{Weights}
use Rattle.packing_model.specs.Built.{packing}
use Rattle.packing_model.specs.Closing.{counted}
use Rattle.packing_model.specs.Nodes.{fixed_of, stage_at}
use Rattle.node_bound.specs.Duals.{side_left}
use Rattle.node_bound.specs.Places.{place_of}
use Rattle.node_bound.specs.Taken.{count_at}
use Rattle.node_bound.proofs.PlaceLaws.{place_is}
use Rattle.node_bound.proofs.TakenLaws.{counts_few}
use Rattle.node_bound.proofs.SideLaws.{clique_side}
use Rattle.node_bound.proofs.taken.left_of_side.Goals as goal

pub returns-in-Level : goal.returns-in-Level
returns-in-Level g c =
    let at = c.args.at.now in
    let w : Weights = counted (g.O.Objective.weight at.objective.now) (g.O.Objective.floor at.objective.now) in
    let s = stage_at at.level at.targets.now at.best at.pool.now in
    let fits : SFits w64 c.left_of_level.result = search rules in
    to_z-of_z fits ∙ c.left_of_level.ensures ∙ ap (side_left (packing at.model.now) w s (fixed_of at.fixing.now)) (sym c.in-Level.is)

pub returns-in_default : goal.returns-in_default
returns-in_default g c =
    let at = c.args.at.now in
    let w : Weights = counted (g.O.Objective.weight at.objective.now) (g.O.Objective.floor at.objective.now) in
    let s = stage_at at.level at.targets.now at.best at.pool.now in
    let v = c.args.places.now in
    let fits : SFits w64 c.one_less.result = search rules in
    to_z-of_z fits ∙ c.one_less.ensures
    ∙ clique_side (packing at.model.now) w s v (fixed_of at.fixing.now) c.args.counts.now c.args.row (count_at c.args.counts.now c.place.result) c.requires.counts c.requires.placed c.in_default.not-Level (ap (count_at c.args.counts.now) c.place.ensures)

pub one_less-requires : goal.one_less-requires
one_less-requires g c =
    let at = c.args.at.now in
    let w : Weights = counted (g.O.Objective.weight at.objective.now) (g.O.Objective.floor at.objective.now) in
    let s = stage_at at.level at.targets.now at.best at.pool.now in
    let v = c.args.places.now in
    let counts = c.args.counts.now in
    let below = (place_is v c.requires.places.layout c.args.row c.requires.placed).below in
    let few = counts_few (packing at.model.now) w s v at.fixing.now.one [] counts c.requires.places c.requires.counts (place_of v c.args.row) below in
    let at_place : count_at counts c.place.result ≡ count_at counts (place_of v c.args.row) = ap (count_at counts) c.place.ensures in
    omega (arith, few, at_place, c.requires.node.few)
