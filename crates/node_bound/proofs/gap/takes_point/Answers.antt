use Rattle.std.specs.Prelude.{Bool, Ok, Err, Result, IfOk}
use Rattle.std.proofs.Common.{sym, ◌∙◌}
use Rattle.packing_model.specs.Built.{packing}
use Rattle.node_bound.proofs.GuessedLaws.{gap_is, point_is}
use Rattle.node_bound.proofs.gap.takes_point.Goals as goal

also : {A E : Type 0} (r : Result A E) (P Q : A → Type 0) → ((a : A) → P a → Q a) → IfOk r P → IfOk r Q
also (Ok a) P Q h p = h a p
also (Err e) P Q h p = tt

pub returns : goal.returns
returns g c =
    let k = packing c.args.at.now.model.now in
    also c.keeps_rows.result _ _ (λ kept rows yes. gap_is k _ _ _ c.args.point.now (point_is k c.args.point.now (sym c.is_point.ensures ∙ c.if-not-is_point.false)) (c.is_beside.ensures c.if-not-is_beside.false) (rows yes)) c.keeps_rows.ensures
