use Rattle.std.proofs.Common.{rules, ◌≡◌, ◌+◌, sym, subst, SFits, to_z-of_z, List, ◌++◌, ◌∷◌, []}
use Rattle.std.specs.Int.{w64}
use Rattle.duality.specs.Packing.{Weights}
use Rattle.exact_simplex.specs.declared.task.LpRow.{LpRow}
use Rattle.packing_model.specs.Built.{packing}
use Rattle.packing_model.specs.Closing.{counted}
use Rattle.packing_model.specs.Nodes.{fixed_of, stage_at}
use Rattle.node_bound.specs.Entries.{AreEmptyRows, empty_row}
use Rattle.node_bound.proofs.PlaceLaws.{placed_at}
use Rattle.node_bound.proofs.EntryLaws.{empty_more}
use Rattle.node_bound.proofs.entries.empty_rows.Goals as goal

pub left_of_side-side-requires-clause-placed : goal.left_of_side-side-requires-clause-placed
left_of_side-side-requires-clause-placed g c = placed_at c.args.places.now c.requires.places.layout c.args.names.now c.loop-name.name-index c.requires.names c.loop-name-test.true

pub loop-name-preserved : goal.loop-name-preserved
loop-name-preserved g c =
    let at = c.args.at.now in
    let w : Weights = counted (g.O.Objective.weight at.objective.now) (g.O.Objective.floor at.objective.now) in
    let s = stage_at at.level at.targets.now at.best at.pool.now in
    let f = fixed_of at.fixing.now in
    let k = packing at.model.now in
    let names = c.args.names.now in
    let i = c.loop-name.name-index in
    let side = c.left_of_side-side.result in
    let kind = c.kind_of.result in
    let fits : SFits w64 side = search rules in
    let h = c.in_ok-push_row.ensures in
    let new : c.push_row.new.rows.items ≡ c.loop-name.rows.items ++ empty_row kind side ∷ [] = simp to_z-of_z at h in
    subst (λ (rows : List LpRow). AreEmptyRows k w s f names (i + 1) rows) (sym new) (empty_more k w s f names i c.loop-name.rows.items kind side c.kind_of.ensures c.left_of_side-side.ensures c.loop-name.invariant)
