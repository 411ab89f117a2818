use Rattle.std.proofs.Common.{rules, ◌∙◌, ap₂, sym, refl, ◌+ℤ◌, SFits, to_z-of_z, unsigned_abs}
use Rattle.std.proofs.Common.{ap, ◌*ℤ◌}
use Rattle.std.specs.Int.{◌∣◌, w128}
use Rattle.exact_num.proofs.Division.{AreSumSteps, sum_found, fails_1, fails_2, fails_3, fails_5}
use Rattle.exact_num.specs.Work.{below}
use Rattle.std.proofs.lemmas.Nat.Gcd.{dvd_trans}
use Rattle.exact_num.proofs.parts.full_sum.Goals as goal

pub quotient-b1-requires-clause-divides : goal.quotient-b1-requires-clause-divides
quotient-b1-requires-clause-divides c =
    let fb : SFits w128 c.args.b = search rules in
    let fg : SFits w128 c.common_divisor-g.result = search rules in
    let h = c.common_divisor-g.ensures.gcd.0 in
    simp to_z-of_z (simp to_z-of_z at h)

pub quotient-d1-requires-clause-divides : goal.quotient-d1-requires-clause-divides
quotient-d1-requires-clause-divides c =
    let fc : SFits w128 c.args.d = search rules in
    let fg : SFits w128 c.common_divisor-g.result = search rules in
    let h = c.common_divisor-g.ensures.gcd.1 in
    simp to_z-of_z (simp to_z-of_z at h)

pub quotient-num-requires-clause-divides : goal.quotient-num-requires-clause-divides
quotient-num-requires-clause-divides c =
    let fs : SFits w128 c.in-Some-fitting_sum.s = search rules in
    let fh : SFits w128 c.common_divisor-h.result = search rules in
    let h = c.common_divisor-h.ensures.gcd.0 in
    simp to_z-of_z (simp to_z-of_z at h)

pub quotient-d2-requires-clause-divides : goal.quotient-d2-requires-clause-divides
quotient-d2-requires-clause-divides c =
    let fc : SFits w128 c.args.d = search rules in
    let fg : SFits w128 c.common_divisor-g.result = search rules in
    let fh : SFits w128 c.common_divisor-h.result = search rules in
    let g = c.common_divisor-g.ensures.gcd.1 in
    let h = c.common_divisor-h.ensures.gcd.1 in
    let low : unsigned_abs c.common_divisor-h.result ∣ unsigned_abs c.common_divisor-g.result = simp to_z-of_z at h in
    let high : unsigned_abs c.common_divisor-g.result ∣ unsigned_abs c.args.d = simp to_z-of_z at g in
    simp to_z-of_z (dvd_trans (unsigned_abs c.common_divisor-h.result) low high)

pub returns-in_default : goal.returns-in_default
returns-in_default c =
    let fan : SFits w128 c.args.a = search rules in
    let fa : SFits w128 c.args.b = search rules in
    let fcn : SFits w128 c.args.c = search rules in
    let fc : SFits w128 c.args.d = search rules in
    let fg : SFits w128 c.common_divisor-g.result = search rules in
    let fb1 : SFits w128 c.quotient-b1.result = search rules in
    let fd1 : SFits w128 c.quotient-d1.result = search rules in
    let hg = c.common_divisor-g.ensures.gcd in
    let hb = c.quotient-b1.ensures in
    let hd = c.quotient-d1.ensures in
    let no_room = c.in_default.ensures in
    fails_1 c.args.bound c.args.a c.args.b c.args.c c.args.d c.common_divisor-g.result c.quotient-b1.result c.quotient-d1.result (simp to_z-of_z at hg) c.common_divisor-g.ensures.positive (simp to_z-of_z at hb) (simp to_z-of_z at hd) (simp to_z-of_z at no_room)

pub returns-in_default-fitting_product : goal.returns-in_default-fitting_product
returns-in_default-fitting_product c =
    let fan : SFits w128 c.args.a = search rules in
    let fa : SFits w128 c.args.b = search rules in
    let fcn : SFits w128 c.args.c = search rules in
    let fc : SFits w128 c.args.d = search rules in
    let fg : SFits w128 c.common_divisor-g.result = search rules in
    let fb1 : SFits w128 c.quotient-b1.result = search rules in
    let fd1 : SFits w128 c.quotient-d1.result = search rules in
    let hg = c.common_divisor-g.ensures.gcd in
    let hb = c.quotient-b1.ensures in
    let hd = c.quotient-d1.ensures in
    let no_room = c.in_default-fitting_product.ensures in
    fails_2 c.args.bound c.args.a c.args.b c.args.c c.args.d c.common_divisor-g.result c.quotient-b1.result c.quotient-d1.result (simp to_z-of_z at hg) c.common_divisor-g.ensures.positive (simp to_z-of_z at hb) (simp to_z-of_z at hd) (simp to_z-of_z at no_room)

pub returns-in_default-fitting_sum : goal.returns-in_default-fitting_sum
returns-in_default-fitting_sum c =
    let fan : SFits w128 c.args.a = search rules in
    let fa : SFits w128 c.args.b = search rules in
    let fcn : SFits w128 c.args.c = search rules in
    let fc : SFits w128 c.args.d = search rules in
    let fg : SFits w128 c.common_divisor-g.result = search rules in
    let fb1 : SFits w128 c.quotient-b1.result = search rules in
    let fd1 : SFits w128 c.quotient-d1.result = search rules in
    let fx : SFits w128 c.in-Some.x = search rules in
    let fy : SFits w128 c.in-Some-fitting_product.y = search rules in
    let hg = c.common_divisor-g.ensures.gcd in
    let hb = c.quotient-b1.ensures in
    let hd = c.quotient-d1.ensures in
    let hx = c.in-Some.ensures.0 in
    let hy = c.in-Some-fitting_product.ensures.0 in
    let no_room = c.in_default-fitting_sum.ensures in
    fails_3 c.args.bound c.args.a c.args.b c.args.c c.args.d c.common_divisor-g.result c.quotient-b1.result c.quotient-d1.result (simp to_z-of_z at hg) c.common_divisor-g.ensures.positive (simp to_z-of_z at hb) (simp to_z-of_z at hd)
    (ap (below c.args.bound) (sym (ap₂ (λ x y. x +ℤ y) (simp to_z-of_z at hx) (simp to_z-of_z at hy))) ∙ (simp to_z-of_z at no_room))

pub returns-in_default-fitting_product-2 : goal.returns-in_default-fitting_product-2
returns-in_default-fitting_product-2 c =
    let fan : SFits w128 c.args.a = search rules in
    let fa : SFits w128 c.args.b = search rules in
    let fcn : SFits w128 c.args.c = search rules in
    let fc : SFits w128 c.args.d = search rules in
    let fg : SFits w128 c.common_divisor-g.result = search rules in
    let fb1 : SFits w128 c.quotient-b1.result = search rules in
    let fd1 : SFits w128 c.quotient-d1.result = search rules in
    let fx : SFits w128 c.in-Some.x = search rules in
    let fy : SFits w128 c.in-Some-fitting_product.y = search rules in
    let fs : SFits w128 c.in-Some-fitting_sum.s = search rules in
    let fh : SFits w128 c.common_divisor-h.result = search rules in
    let fn : SFits w128 c.quotient-num.result = search rules in
    let fd2 : SFits w128 c.quotient-d2.result = search rules in
    let hg = c.common_divisor-g.ensures.gcd in
    let hb = c.quotient-b1.ensures in
    let hd = c.quotient-d1.ensures in
    let hx = c.in-Some.ensures.0 in
    let hy = c.in-Some-fitting_product.ensures.0 in
    let hs = c.in-Some-fitting_sum.ensures.0 in
    let hh = c.common_divisor-h.ensures.gcd in
    let hn = c.quotient-num.ensures in
    let h2 = c.quotient-d2.ensures in
    let t : AreSumSteps c.args.a c.args.b c.args.c c.args.d c.common_divisor-g.result c.quotient-b1.result c.quotient-d1.result c.in-Some-fitting_sum.s c.common_divisor-h.result c.quotient-num.result c.quotient-d2.result (c.quotient-b1.result *ℤ c.quotient-d2.result) = record {
      is_g = simp to_z-of_z at hg;
      some_g = c.common_divisor-g.ensures.positive;
      whole_b = simp to_z-of_z at hb;
      whole_d = simp to_z-of_z at hd;
      s_is = (simp to_z-of_z at hs) ∙ ap₂ (λ x y. x +ℤ y) (simp to_z-of_z at hx) (simp to_z-of_z at hy);
      is_h = simp to_z-of_z at hh;
      some_h = c.common_divisor-h.ensures.positive;
      whole_s = simp to_z-of_z at hn;
      whole_d₂ = simp to_z-of_z at h2;
      den_is = refl;
    } in
    let no_room = c.in_default-fitting_product-2.ensures in
    fails_5 c.args.bound c.args.a c.args.b c.args.c c.args.d c.common_divisor-g.result c.quotient-b1.result c.quotient-d1.result c.in-Some-fitting_sum.s c.common_divisor-h.result c.quotient-num.result c.quotient-d2.result (c.quotient-b1.result *ℤ c.quotient-d2.result) t (simp to_z-of_z at no_room)

pub returns : goal.returns
returns c =
    let fan : SFits w128 c.args.a = search rules in
    let fa : SFits w128 c.args.b = search rules in
    let fcn : SFits w128 c.args.c = search rules in
    let fc : SFits w128 c.args.d = search rules in
    let fg : SFits w128 c.common_divisor-g.result = search rules in
    let fb1 : SFits w128 c.quotient-b1.result = search rules in
    let fd1 : SFits w128 c.quotient-d1.result = search rules in
    let fx : SFits w128 c.in-Some.x = search rules in
    let fy : SFits w128 c.in-Some-fitting_product.y = search rules in
    let fs : SFits w128 c.in-Some-fitting_sum.s = search rules in
    let fh : SFits w128 c.common_divisor-h.result = search rules in
    let fn : SFits w128 c.quotient-num.result = search rules in
    let fd2 : SFits w128 c.quotient-d2.result = search rules in
    let fd : SFits w128 c.in-Some-fitting_product-2.den = search rules in
    let hden = c.in-Some-fitting_product-2.ensures.0 in
    let hg = c.common_divisor-g.ensures.gcd in
    let hb = c.quotient-b1.ensures in
    let hd = c.quotient-d1.ensures in
    let hx = c.in-Some.ensures.0 in
    let hy = c.in-Some-fitting_product.ensures.0 in
    let hs = c.in-Some-fitting_sum.ensures.0 in
    let hh = c.common_divisor-h.ensures.gcd in
    let hn = c.quotient-num.ensures in
    let h2 = c.quotient-d2.ensures in
    let t : AreSumSteps c.args.a c.args.b c.args.c c.args.d c.common_divisor-g.result c.quotient-b1.result c.quotient-d1.result c.in-Some-fitting_sum.s c.common_divisor-h.result c.quotient-num.result c.quotient-d2.result c.in-Some-fitting_product-2.den = record {
      is_g = simp to_z-of_z at hg;
      some_g = c.common_divisor-g.ensures.positive;
      whole_b = simp to_z-of_z at hb;
      whole_d = simp to_z-of_z at hd;
      s_is = (simp to_z-of_z at hs) ∙ ap₂ (λ x y. x +ℤ y) (simp to_z-of_z at hx) (simp to_z-of_z at hy);
      is_h = simp to_z-of_z at hh;
      some_h = c.common_divisor-h.ensures.positive;
      whole_s = simp to_z-of_z at hn;
      whole_d₂ = simp to_z-of_z at h2;
      den_is = simp to_z-of_z at hden;
    } in
    let room_x = c.in-Some.ensures.1 in
    let room_y = c.in-Some-fitting_product.ensures.1 in
    let room_s = c.in-Some-fitting_sum.ensures.1 in
    let room_den = c.in-Some-fitting_product-2.ensures.1 in
    let found = sum_found c.args.bound c.args.a c.args.b c.args.c c.args.d c.common_divisor-g.result c.quotient-b1.result c.quotient-d1.result c.in-Some-fitting_sum.s c.common_divisor-h.result c.quotient-num.result c.quotient-d2.result c.in-Some-fitting_product-2.den t c.requires.first c.requires.second
    (simp to_z-of_z at room_x) (simp to_z-of_z at room_y)
    (ap (below c.args.bound) (simp to_z-of_z at hs) ∙ (simp to_z-of_z at room_s)) (ap (below c.args.bound) (simp to_z-of_z at hden) ∙ (simp to_z-of_z at room_den)) in
    simp to_z-of_z found
