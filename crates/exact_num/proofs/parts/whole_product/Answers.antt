use Rattle.std.proofs.Common.{rules, subst, sym, to_z-of_z, SFits, ◌≡◌, ◌*ℤ◌, pos}
use Rattle.exact_num.specs.Arith.{IsReduced}
use Rattle.std.specs.Int.{w128}
use Rattle.exact_num.proofs.Products.{whole_product_found, whole_product_fails}
use Rattle.exact_num.proofs.parts.whole_product.Goals as goal

pub returns-in-None : goal.returns-in-None
returns-in-None c =
    let fa : SFits w128 c.args.a = search rules in
    let fc : SFits w128 c.args.c = search rules in
    let h = c.in-None.ensures in
    whole_product_fails c.args.bound c.args.a c.args.c (simp to_z-of_z at h)

pub returns-in-Some : goal.returns-in-Some
returns-in-Some c =
    let fa : SFits w128 c.args.a = search rules in
    let fc : SFits w128 c.args.c = search rules in
    let fs : SFits w128 c.in-Some.product = search rules in
    let h = c.in-Some.ensures.0 in
    let room = c.in-Some.ensures.1 in
    let e : c.in-Some.product ≡ c.args.a *ℤ c.args.c = simp to_z-of_z at h in
    let found = whole_product_found c.args.bound c.args.a c.args.c c.requires.one (simp to_z-of_z at room) in
    simp to_z-of_z (found.0, subst (λ z. IsReduced c.args.bound z (pos 1) (c.args.a *ℤ c.args.c) (pos 1 *ℤ pos 1)) (sym e) found.1)
