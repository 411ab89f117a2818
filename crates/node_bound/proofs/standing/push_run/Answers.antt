use Rattle.std.proofs.Common.{◌+◌, ◌-◌, ◌∙◌, sym, ap, ◌++◌, ◌∷◌, [], append_assoc, List}
use Rattle.duality.specs.Runs.{rows_from}
use Rattle.duality.specs.declared.row.RowName.{RowName}
use Rattle.duality.specs.declared.row.RowName.TheVariants.{Base}
use Rattle.duality.proofs.RunLaws.{from_more}
use Rattle.node_bound.proofs.standing.push_run.Goals as goal

pub loop-row-preserved : goal.loop-row-preserved
loop-row-preserved c =
    let row = c.loop-row.row in
    let end = c.args.run.first + c.args.run.count in
    let rest : List RowName = rows_from (row + 1) (end - (row + 1)) in
    ap (λ (xs : List RowName). xs ++ rest) c.in_ok-push.ensures.ok ∙ append_assoc c.loop-row.rows (Base row ∷ []) rest
    ∙ ap (λ (xs : List RowName). c.loop-row.rows ++ xs) (sym (from_more row end c.loop-row-test.true)) ∙ c.loop-row.invariant
