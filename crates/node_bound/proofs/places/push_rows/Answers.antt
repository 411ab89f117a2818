use Rattle.std.proofs.Common.{◌∙◌, sym, ap, ap₂, ◌++◌, ◌∷◌, [], append_assoc, List}
use Rattle.duality.specs.declared.row.RowName.{RowName}
use Rattle.node_bound.specs.Places.{stretch_from, later_row}
use Rattle.node_bound.proofs.PlaceLaws.{from_more}
use Rattle.node_bound.proofs.places.push_rows.Goals as goal

pub loop-i-preserved : goal.loop-i-preserved
loop-i-preserved c =
    let first = c.args.first in
    let i = c.loop-i.i in
    let names = c.args.names.now in
    c.in_ok-push.ensures.ok ∙ ap₂ (λ (xs : List RowName) (r : RowName). xs ++ r ∷ []) c.loop-i.invariant c.later_row.ensures
    ∙ append_assoc names (stretch_from first i) (later_row first i ∷ []) ∙ ap (λ (xs : List RowName). names ++ xs) (sym (from_more first i))
