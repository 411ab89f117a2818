use Rattle.std.proofs.Common.{rules, ◌≡◌, sym, subst, ◌*ℤ◌, SFits, to_z-of_z}
use Rattle.std.specs.Int.{w128}
use Rattle.exact_num.specs.Arith.{IsReduced}
use Rattle.exact_num.proofs.Products.{AreProductSteps, product_found, product_fails_1, product_fails_2}
use Rattle.exact_num.proofs.parts.full_product.Goals as goal

pub quotient-a1-requires-clause-divides : goal.quotient-a1-requires-clause-divides
quotient-a1-requires-clause-divides c =
    let fa : SFits w128 c.args.a = search rules in
    let fg : SFits w128 c.common_divisor-g.result = search rules in
    let h = c.common_divisor-g.ensures.gcd.0 in
    simp to_z-of_z (simp to_z-of_z at h)

pub quotient-c1-requires-clause-divides : goal.quotient-c1-requires-clause-divides
quotient-c1-requires-clause-divides c =
    let fc : SFits w128 c.args.c = search rules in
    let fh : SFits w128 c.common_divisor-h.result = search rules in
    let h = c.common_divisor-h.ensures.gcd.0 in
    simp to_z-of_z (simp to_z-of_z at h)

pub quotient-b1-requires-clause-divides : goal.quotient-b1-requires-clause-divides
quotient-b1-requires-clause-divides c =
    let fb : SFits w128 c.args.b = search rules in
    let fh : SFits w128 c.common_divisor-h.result = search rules in
    let h = c.common_divisor-h.ensures.gcd.1 in
    simp to_z-of_z (simp to_z-of_z at h)

pub quotient-d1-requires-clause-divides : goal.quotient-d1-requires-clause-divides
quotient-d1-requires-clause-divides c =
    let fd : SFits w128 c.args.d = search rules in
    let fg : SFits w128 c.common_divisor-g.result = search rules in
    let h = c.common_divisor-g.ensures.gcd.1 in
    simp to_z-of_z (simp to_z-of_z at h)

pub returns-in_default : goal.returns-in_default
returns-in_default c =
    let fa : SFits w128 c.args.a = search rules in
    let fb : SFits w128 c.args.b = search rules in
    let fc : SFits w128 c.args.c = search rules in
    let fd : SFits w128 c.args.d = search rules in
    let fg : SFits w128 c.common_divisor-g.result = search rules in
    let fh : SFits w128 c.common_divisor-h.result = search rules in
    let fa1 : SFits w128 c.quotient-a1.result = search rules in
    let fc1 : SFits w128 c.quotient-c1.result = search rules in
    let hg = c.common_divisor-g.ensures.gcd in
    let hh = c.common_divisor-h.ensures.gcd in
    let ha = c.quotient-a1.ensures in
    let hc = c.quotient-c1.ensures in
    let no_room = c.in_default.ensures in
    product_fails_1 c.args.bound c.args.a c.args.b c.args.c c.args.d c.common_divisor-g.result c.common_divisor-h.result c.quotient-a1.result c.quotient-c1.result
    (simp to_z-of_z at hg) c.common_divisor-g.ensures.positive (simp to_z-of_z at hh) c.common_divisor-h.ensures.positive (simp to_z-of_z at ha) (simp to_z-of_z at hc) (simp to_z-of_z at no_room)

pub returns-in_default-fitting_product : goal.returns-in_default-fitting_product
returns-in_default-fitting_product c =
    let fa : SFits w128 c.args.a = search rules in
    let fb : SFits w128 c.args.b = search rules in
    let fc : SFits w128 c.args.c = search rules in
    let fd : SFits w128 c.args.d = search rules in
    let fg : SFits w128 c.common_divisor-g.result = search rules in
    let fh : SFits w128 c.common_divisor-h.result = search rules in
    let fa1 : SFits w128 c.quotient-a1.result = search rules in
    let fc1 : SFits w128 c.quotient-c1.result = search rules in
    let fb1 : SFits w128 c.quotient-b1.result = search rules in
    let fd1 : SFits w128 c.quotient-d1.result = search rules in
    let hg = c.common_divisor-g.ensures.gcd in
    let hh = c.common_divisor-h.ensures.gcd in
    let ha = c.quotient-a1.ensures in
    let hc = c.quotient-c1.ensures in
    let hb = c.quotient-b1.ensures in
    let hd = c.quotient-d1.ensures in
    let no_room = c.in_default-fitting_product.ensures in
    let t : AreProductSteps c.args.a c.args.b c.args.c c.args.d c.common_divisor-g.result c.common_divisor-h.result c.quotient-a1.result c.quotient-c1.result c.quotient-b1.result c.quotient-d1.result = record {
      is_g = simp to_z-of_z at hg;
      some_g = c.common_divisor-g.ensures.positive;
      is_h = simp to_z-of_z at hh;
      some_h = c.common_divisor-h.ensures.positive;
      whole_a = simp to_z-of_z at ha;
      whole_c = simp to_z-of_z at hc;
      whole_b = simp to_z-of_z at hb;
      whole_d = simp to_z-of_z at hd;
    } in
    product_fails_2 c.args.bound c.args.a c.args.b c.args.c c.args.d c.common_divisor-g.result c.common_divisor-h.result c.quotient-a1.result c.quotient-c1.result c.quotient-b1.result c.quotient-d1.result t (simp to_z-of_z at no_room)

pub returns : goal.returns
returns c =
    let fa : SFits w128 c.args.a = search rules in
    let fb : SFits w128 c.args.b = search rules in
    let fc : SFits w128 c.args.c = search rules in
    let fd : SFits w128 c.args.d = search rules in
    let fg : SFits w128 c.common_divisor-g.result = search rules in
    let fh : SFits w128 c.common_divisor-h.result = search rules in
    let fa1 : SFits w128 c.quotient-a1.result = search rules in
    let fc1 : SFits w128 c.quotient-c1.result = search rules in
    let fb1 : SFits w128 c.quotient-b1.result = search rules in
    let fd1 : SFits w128 c.quotient-d1.result = search rules in
    let fn : SFits w128 c.in-Some.num = search rules in
    let fm : SFits w128 c.in-Some-fitting_product.den = search rules in
    let hg = c.common_divisor-g.ensures.gcd in
    let hh = c.common_divisor-h.ensures.gcd in
    let ha = c.quotient-a1.ensures in
    let hc = c.quotient-c1.ensures in
    let hb = c.quotient-b1.ensures in
    let hd = c.quotient-d1.ensures in
    let hn = c.in-Some.ensures.0 in
    let hm = c.in-Some-fitting_product.ensures.0 in
    let room_n = c.in-Some.ensures.1 in
    let room_m = c.in-Some-fitting_product.ensures.1 in
    let t : AreProductSteps c.args.a c.args.b c.args.c c.args.d c.common_divisor-g.result c.common_divisor-h.result c.quotient-a1.result c.quotient-c1.result c.quotient-b1.result c.quotient-d1.result = record {
      is_g = simp to_z-of_z at hg;
      some_g = c.common_divisor-g.ensures.positive;
      is_h = simp to_z-of_z at hh;
      some_h = c.common_divisor-h.ensures.positive;
      whole_a = simp to_z-of_z at ha;
      whole_c = simp to_z-of_z at hc;
      whole_b = simp to_z-of_z at hb;
      whole_d = simp to_z-of_z at hd;
    } in
    let en : c.in-Some.num ≡ c.quotient-a1.result *ℤ c.quotient-c1.result = simp to_z-of_z at hn in
    let em : c.in-Some-fitting_product.den ≡ c.quotient-b1.result *ℤ c.quotient-d1.result = simp to_z-of_z at hm in
    let found = product_found c.args.bound c.args.a c.args.b c.args.c c.args.d c.common_divisor-g.result c.common_divisor-h.result c.quotient-a1.result c.quotient-c1.result c.quotient-b1.result c.quotient-d1.result t c.requires.first c.requires.second (simp to_z-of_z at room_n) (simp to_z-of_z at room_m) in
    simp to_z-of_z (
      found.0,
      subst (λ z. IsReduced c.args.bound z c.in-Some-fitting_product.den (c.args.a *ℤ c.args.c) (c.args.b *ℤ c.args.d)) (sym en)
          (subst (λ z. IsReduced c.args.bound (c.quotient-a1.result *ℤ c.quotient-c1.result) z (c.args.a *ℤ c.args.c) (c.args.b *ℤ c.args.d)) (sym em) found.1),
    )
