use Rattle.std.proofs.Common.{◌∙◌, ap, subst, sym}
use Rattle.std.specs.Prelude.{Option, ℤ, ◌*ℤ◌, ◌^◌}
use Rattle.duality.specs.Sums.{IsValue, IsWithin}
use Rattle.duality.proofs.PricedLaws.{plain_gain}
use Rattle.packing_model.specs.Built.{packing}
use Rattle.search_nodes.specs.Points.{IsAbove, sum_at}
use Rattle.node_bound.proofs.GuessedLaws.{above_is, den_within, entries_are, next_is, next_within, plain_is}
use Rattle.node_bound.proofs.gap.is_above.Goals as goal

pub sum_of-sum-requires-clause-point : goal.sum_of-sum-requires-clause-point
sum_of-sum-requires-clause-point g c = entries_are (packing c.args.at.now.model.now) (g.O.Objective.count c.args.at.now.objective.now) c.args.point.now c.requires.node.counted c.requires.point

pub returns-in-Some : goal.returns-in-Some
returns-in-Some g c = λ most.
    let at = c.args.at.now in
    let k = packing at.model.now in
    let f = g.O.Objective.weight at.objective.now at.level in
    let x = c.args.point.now in
    let best : IsWithin (10 ^ 12) c.in-Some.best = subst IsValue c.in-Some.is c.requires.best in
    let next = next_is c.in-Some.best c.one_more.result best c.one_more.ensures in
    let gain = plain_gain x.den c.one_more.result c.product.result (den_within k x c.requires.point) (next_within c.in-Some.best c.one_more.result best next) c.product.ensures.small c.product.ensures.value in
    subst (λ (b : Option ℤ). IsAbove b x.den (sum_at k f x)) (sym c.in-Some.is)
    (above_is k x f c.in-Some.best _ _ c.requires.point (gain ∙ ap (λ z. x.den *ℤ z) next) (plain_is c.sum_of-sum.result c.sum_of-sum.ensures.small ∙ c.sum_of-sum.ensures.value) (sym c.is_at_most.ensures ∙ most))
