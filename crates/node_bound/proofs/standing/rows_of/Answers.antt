use Rattle.std.proofs.Common.{◌≡◌, ◌+◌, ◌∙◌, sym, ap, subst, arith, List, ◌++◌, length}
use Rattle.std.proofs.lemmas.List.{length-append}
use Rattle.duality.specs.Runs.{rows_in}
use Rattle.duality.specs.declared.row.RowName.{RowName}
use Rattle.duality.specs.Sums.{AreRowsOf}
use Rattle.packing_model.specs.Built.{packing}
use Rattle.packing_model.specs.Nodes.{stage_of}
use Rattle.packing_model.proofs.NodeLemmas.{rows_join}
use Rattle.node_bound.proofs.standing.rows_of.Goals as goal

pub returns : goal.returns
returns c =
    let base : List RowName = rows_in c.base_runs.result.now in
    let cuts : List RowName = c.cut_rows.result.now in
    let is : c.push_all.new.rows ≡ base ++ cuts = c.in_ok-push_all.ensures ∙ ap (λ (xs : List RowName). xs ++ cuts) (c.in_ok-push_runs.ensures ∙ ap (λ (xs : List RowName). xs ++ base) c.new-rows.ensures) in (
      subst (λ (xs : List RowName). AreRowsOf (packing c.args.model.now) (stage_of c.args.pool.now) xs c.args.pattern) (sym is) (rows_join (packing c.args.model.now) (stage_of c.args.pool.now) base cuts c.args.pattern c.base_runs.ensures.rows c.cut_rows.ensures),
      (let n : length c.push_all.new.rows ≡ length base + length cuts = ap length is ∙ length-append base cuts in omega (arith, n, c.base_runs.ensures.rows.few, c.cut_rows.ensures.few)),
    )
