use Rattle.std.proofs.Common.{◌∙◌, sym, ap, subst, arith, ◌*◌}
use Rattle.std.specs.Prelude.{ℤ, ◌*ℤ◌, ◌^◌}
use Rattle.duality.specs.Sums.{IsWithin}
use Rattle.duality.proofs.PricedLaws.{plain_gain}
use Rattle.packing_model.specs.Built.{packing}
use Rattle.node_bound.proofs.GuessedLaws.{den_within, entries_are, floor_is, plain_is, smaller_within}
use Rattle.node_bound.proofs.gap.reaches_floor.Goals as goal

pub sum_of-sum-requires-clause-point : goal.sum_of-sum-requires-clause-point
sum_of-sum-requires-clause-point g c = entries_are (packing c.args.at.now.model.now) (g.O.Objective.count c.args.at.now.objective.now) c.args.point.now c.requires.count c.requires.point

pub returns : goal.returns
returns g c = λ most.
    let at = c.args.at.now in
    let k = packing at.model.now in
    let x = c.args.point.now in
    let small : IsWithin (10 ^ 12) c.floor_number.result = subst (IsWithin (10 ^ 12)) (sym c.floor_number.ensures) (g.met.O.Objective.small_number at.objective.now) in
    let least = plain_gain x.den c.floor_number.result c.product-least.result (den_within k x c.requires.point) (smaller_within (10 ^ 12) (4 * 10 ^ 12) c.floor_number.result (omega arith) small) c.product-least.ensures.small c.product-least.ensures.value in
    floor_is k (g.O.Objective.floor at.objective.now) x _ _ c.requires.point (plain_is c.sum_of-sum.result c.sum_of-sum.ensures.small ∙ c.sum_of-sum.ensures.value) (least ∙ ap (λ z. x.den *ℤ z) c.floor_number.ensures) (sym c.is_negated.ensures ∙ most)
