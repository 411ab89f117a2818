use Rattle.std.proofs.Common.{◌+◌, get_or, drop}
use Rattle.std.proofs.lemmas.List.{drop_more}
use Rattle.duality.specs.declared.row.RowName.TheVariants.{Base}
use Rattle.node_bound.proofs.GivenLaws.{adds_step}
use Rattle.node_bound.proofs.given.add_rows.Goals as goal

pub loop-row-preserved : goal.loop-row-preserved
loop-row-preserved c =
    let rows = c.args.rows.now in
    let i = c.loop-row.row-index in
    adds_step c.args.places.now _ rows (drop i rows) (drop (i + 1) rows) (get_or rows i (Base 0)) c.args.sums.now c.loop-row.sums c.add_row.new.sums (drop_more rows i (Base 0) c.loop-row-test.true) c.loop-row.invariant c.add_row.ensures
