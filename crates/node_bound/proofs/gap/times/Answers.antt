use Rattle.std.proofs.Common.{◌≡◌, ◌*◌, ◌^◌, ◌∙◌, arith, ap, rules}
use Rattle.std.specs.Prelude.{FitsSigned, ℤ, ◌*ℤ◌}
use Rattle.std.proofs.lemmas.Int.{ints, to_z-of_z}
use mir.Syntax.{w128}
use mir.Val.{to_z, of_z}
use Rattle.duality.specs.Sums.{IsWithin}
use Rattle.duality.proofs.PricedLaws.{within_product}
use Rattle.node_bound.proofs.gap.times.Goals as goal

fits : (x y : ℤ) → IsWithin (10 ^ 9) x → IsWithin (10 ^ 24) y → FitsSigned w128 (x *ℤ y)
fits x y p q = let h = within_product (10 ^ 9) (10 ^ 24) (10 ^ 33) x y p q (omega arith) in omega (arith, ints, h.low, h.high)

whole : (x y r : ℤ) → FitsSigned w128 r → FitsSigned w128 y → r ≡ x → FitsSigned w128 (x *ℤ y) → to_z w128 (of_z w128 (to_z w128 (of_z w128 r) *ℤ to_z w128 (of_z w128 y))) ≡ x *ℤ y
whole x y r q p e s =
    ap (λ z. to_z w128 (of_z w128 (z *ℤ to_z w128 (of_z w128 y)))) (to_z-of_z w128 r q ∙ e)
    ∙ ap (λ z. to_z w128 (of_z w128 (x *ℤ z))) (to_z-of_z w128 y p)
    ∙ to_z-of_z w128 (x *ℤ y) s

pub returns-clause-small : goal.returns-clause-small
returns-clause-small c =
    let is = whole c.args.weight c.args.part c.from.result (search rules) c.ranges.part (search rules) (fits c.args.weight c.args.part c.requires.weight c.requires.part) in
    rw is (within_product (10 ^ 9) (10 ^ 24) (10 ^ 33) c.args.weight c.args.part c.requires.weight c.requires.part (omega arith))
