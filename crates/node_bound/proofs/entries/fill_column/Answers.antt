use Rattle.std.proofs.Common.{subst, List}
use Rattle.std.specs.Prelude.{ℤ}
use Rattle.duality.specs.Packing.{Weights}
use Rattle.duality.specs.declared.row.RowName.{RowName}
use Rattle.packing_model.specs.Built.{packing}
use Rattle.packing_model.specs.Closing.{counted}
use Rattle.packing_model.specs.Nodes.{stage_at}
use Rattle.node_bound.specs.Entries.{Gives, nothing}
use Rattle.node_bound.specs.Places.{put_total, row_number}
use Rattle.node_bound.proofs.EntryLaws.{column_given}
use Rattle.node_bound.proofs.TaskLaws.{rows_at_stage}
use Rattle.node_bound.proofs.entries.fill_column.Goals as goal

pub returns : goal.returns
returns g c =
    let at = c.args.at.now in
    let w : Weights = counted (g.O.Objective.weight at.objective.now) (g.O.Objective.floor at.objective.now) in
    let s = stage_at at.level at.targets.now at.best at.pool.now in
    let k = packing at.model.now in
    let v = c.args.places.now in
    let p = c.args.pattern in
    let number : RowName → ℤ = row_number w p in
    let old = c.args.rows.now in
    let mid = c.add_numbers.new.rows in
    let new = c.add_numbers-2.new.rows in
    let standing = c.in_ok-standing.standing in
    column_given k w s v c.requires.places p c.args.column standing old mid new (rows_at_stage k s standing p c.in_ok-standing.ensures.0) c.requires.whole
    (subst (λ (xs : List RowName). Gives c.args.column (λ x. put_total v x number xs) nothing old mid) c.as_slice.ensures c.in_ok-add_numbers.ensures)
    (subst (λ (xs : List RowName). Gives c.args.column (λ x. put_total v x number xs) nothing mid new) c.requires.levels c.in_ok-add_numbers-2.ensures)
