use Rattle.std.proofs.Common.{◌≡◌, ◌*◌, ◌^◌, ◌∙◌, arith, ap, rules}
use Rattle.std.specs.Prelude.{FitsSigned, ℤ, ◌*ℤ◌}
use Rattle.std.proofs.lemmas.Int.{to_z-of_z}
use mir.Syntax.{w128}
use mir.Val.{to_z, of_z}
use Rattle.duality.proofs.PricedLaws.{within_product, fits_product}
use Rattle.duality.proofs.sums.product.Goals as goal

whole : (x y r : ℤ) → FitsSigned w128 x → FitsSigned w128 r → r ≡ y → FitsSigned w128 (x *ℤ y) → to_z w128 (of_z w128 (to_z w128 (of_z w128 x) *ℤ to_z w128 (of_z w128 r))) ≡ x *ℤ y
whole x y r p q e s =
    ap (λ z. to_z w128 (of_z w128 (z *ℤ to_z w128 (of_z w128 r)))) (to_z-of_z w128 x p)
    ∙ ap (λ z. to_z w128 (of_z w128 (x *ℤ z))) (to_z-of_z w128 r q ∙ e)
    ∙ to_z-of_z w128 (x *ℤ y) s

pub returns-clause-value : goal.returns-clause-value
returns-clause-value c =
    whole c.args.times c.args.number c.from.result c.ranges.times (search rules) (search rules) (fits_product c.args.times c.args.number c.requires.times c.requires.number)

pub returns-clause-small : goal.returns-clause-small
returns-clause-small c =
    let is = whole c.args.times c.args.number c.from.result c.ranges.times (search rules) (search rules) (fits_product c.args.times c.args.number c.requires.times c.requires.number) in
    rw is (within_product (10 ^ 24) (4 * 10 ^ 12) (4 * 10 ^ 36) c.args.times c.args.number c.requires.times c.requires.number (omega arith))
