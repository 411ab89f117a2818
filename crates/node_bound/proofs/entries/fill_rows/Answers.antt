use Rattle.std.proofs.Common.{◌∙◌, sym}
use Rattle.duality.specs.Packing.{Weights}
use Rattle.packing_model.specs.Built.{packing}
use Rattle.packing_model.specs.Closing.{counted}
use Rattle.packing_model.specs.Nodes.{stage_at}
use Rattle.node_bound.specs.Places.{names_in}
use Rattle.node_bound.proofs.PlaceLaws.{length-names}
use Rattle.node_bound.proofs.EntryLaws.{filled_none, filled_more}
use Rattle.node_bound.proofs.entries.fill_rows.Goals as goal

pub loop-column-init : goal.loop-column-init
loop-column-init g c =
    let at = c.args.at.now in
    let w : Weights = counted (g.O.Objective.weight at.objective.now) (g.O.Objective.floor at.objective.now) in
    filled_none (packing at.model.now) w (stage_at at.level at.targets.now at.best at.pool.now) (names_in c.args.places.now) c.args.columns.now c.args.rows.now c.requires.empty

pub loop-column-preserved : goal.loop-column-preserved
loop-column-preserved g c =
    let at = c.args.at.now in
    let w : Weights = counted (g.O.Objective.weight at.objective.now) (g.O.Objective.floor at.objective.now) in
    let v = c.args.places.now in
    filled_more (packing at.model.now) w (stage_at at.level at.targets.now at.best at.pool.now) (names_in v) c.args.columns.now c.loop-column.column c.args.rows.now c.loop-column.rows c.fill_column.new.rows
    (c.requires.whole ∙ sym (length-names v c.requires.places.layout)) c.loop-column.invariant c.in_ok-fill_column.ensures
