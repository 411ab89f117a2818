use Rattle.std.proofs.Common.{ap, ◌∙◌}
use Rattle.std.specs.Prelude.{◌*ℤ◌}
use mir.Syntax.{w64}
use mir.Val.{to_z, of_z}
use Rattle.numbers.specs.Sums.{total}
use Rattle.duality.specs.Packing.{Weights}
use Rattle.duality.specs.Sums.{weighed}
use Rattle.duality.proofs.PricedLaws.{plain_times, plain_product, plain_number, level_total}
use Rattle.duality.proofs.sums.row_price.Goals as goal

pub returns-clause-value : goal.returns-clause-value
returns-clause-value g c =
    let w : Weights = record { weight = g.O.Objective.weight c.args.objective.now; floor = g.O.Objective.floor c.args.objective.now } in
    plain_product c.product.result c.product.ensures.small
    ∙ c.product.ensures.value
    ∙ ap (λ z. z *ℤ to_z w64 (of_z w64 c.weigh.result)) (plain_times c.args.times c.requires.small)
    ∙ ap (λ z. c.args.times *ℤ z) (plain_number c.weigh.result c.weigh.ensures.small ∙ c.weigh.ensures.value ∙ ap (λ v. total (weighed w v) c.args.patterns.now) c.weighed_at.ensures ∙ level_total w c.args.level c.args.patterns.now)
