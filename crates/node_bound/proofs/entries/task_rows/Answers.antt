use Rattle.std.proofs.Common.{◌∙◌, sym, ap, subst, arith, List, length}
use Rattle.duality.specs.Packing.{Weights}
use Rattle.duality.specs.declared.row.RowName.{RowName}
use Rattle.exact_simplex.specs.declared.task.LpRow.{LpRow}
use Rattle.packing_model.specs.Built.{packing}
use Rattle.packing_model.specs.Closing.{counted}
use Rattle.packing_model.specs.Nodes.{fixed_of, stage_at}
use Rattle.node_bound.specs.Places.{names_in}
use Rattle.node_bound.specs.Entries.{AreFilled, AreTaskRows}
use Rattle.node_bound.proofs.PlaceLaws.{length-names}
use Rattle.node_bound.proofs.EntryLaws.{rows_done}
use Rattle.node_bound.proofs.TaskLaws.{written_back}
use Rattle.node_bound.proofs.entries.task_rows.Goals as goal

pub fill_rows-requires-clause-whole : goal.fill_rows-requires-clause-whole
fill_rows-requires-clause-whole g c = ap length c.deref_mut.ensures.value ∙ c.in_ok-rows.ensures.one_each ∙ ap length c.requires.names ∙ length-names c.args.places.now c.requires.places.layout

pub returns : goal.returns
returns g c =
    let at = c.args.at.now in
    let w : Weights = counted (g.O.Objective.weight at.objective.now) (g.O.Objective.floor at.objective.now) in
    let s = stage_at at.level at.targets.now at.best at.pool.now in
    let f = fixed_of at.fixing.now in
    let k = packing at.model.now in
    let names = c.args.names.now in
    let columns = c.args.columns.now in
    let items = c.in_ok-rows.rows.items in
    let new = c.fill_rows.new.rows in
    let n = length columns in
    let filled : AreFilled k w s names columns n items new =
    subst (λ (xs : List RowName). AreFilled k w s xs columns n items new) (sym c.requires.names)
    (subst (λ (rs : List LpRow). AreFilled k w s (names_in c.args.places.now) columns n rs new) c.deref_mut.ensures.value c.in_ok-fill_rows.ensures) in
    subst (AreTaskRows k w s f names columns) (sym (written_back items new c.in_ok-rows.rows.len filled.same_length (omega (arith, c.in_ok-rows.rows.ok.0))))
    (rows_done k w s f names columns items new c.in_ok-rows.ensures filled)
