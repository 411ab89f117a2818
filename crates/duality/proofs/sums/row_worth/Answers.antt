use Rattle.std.proofs.Common.{ap, arith, ◌∙◌, ◌*◌, ◌^◌}
use Rattle.std.specs.Prelude.{◌*ℤ◌}
use Rattle.std.proofs.lemmas.Int.{ints}
use mir.Syntax.{w64}
use mir.Val.{to_z, of_z}
use Rattle.duality.specs.Sums.{IsWithin}
use Rattle.duality.proofs.PricedLaws.{plain_times, plain_product, plain_number}
use Rattle.duality.proofs.sums.row_worth.Goals as goal

pub returns-clause-value : goal.returns-clause-value
returns-clause-value g c =
    let small : IsWithin (4 * 10 ^ 12) c.side.result = record { low = omega (arith, ints, c.side.ensures.small.low); high = omega (arith, ints, c.side.ensures.small.high) } in
    plain_product c.product.result c.product.ensures.small
    ∙ c.product.ensures.value
    ∙ ap (λ z. z *ℤ to_z w64 (of_z w64 c.side.result)) (plain_times c.args.times c.requires.small)
    ∙ ap (λ z. c.args.times *ℤ z) (plain_number c.side.result small ∙ c.side.ensures.value)
