use Rattle.std.proofs.Common.{rules, arith, ◌≡◌, ◌≢◌, ◌<◌, ◌/◌, ◌^◌, ap, sym, ◌∙◌, subst, pos, SFits, of_z, to_z, to_z-of_z}
use Rattle.std.specs.Int.{w128}
use Rattle.std.proofs.lemmas.Int.{ints}
use Rattle.exact_num.specs.Arith.{IsReduced}
use Rattle.exact_num.specs.Signs.{sign_of}
use Rattle.exact_num.proofs.Lowest.{lowest_parts, unfit_num, unfit_den, reduced_of}
use Rattle.exact_num.proofs.parts.reduced.Goals as goal

pub nonzero_div-n : goal.nonzero_div-n
nonzero_div-n c =
    let fn : SFits w128 c.args.num = search rules in
    let fd : SFits w128 c.args.den = search rules in
    let en = c.unsigned_abs-size.ensures.value in
    let ed = c.unsigned_abs-den_size.ensures.value in
    let some : c.args.den ≢ pos 0 = λ e. c.if-den-eq0.false (ap (of_z w128) e) in
    let t = lowest_parts c.args.num c.args.den c.unsigned_abs-size.result c.unsigned_abs-den_size.result c.gcd-g.result (simp to_z-of_z at en) (simp to_z-of_z at ed) some c.gcd-g.ensures in
    t.some

pub nonzero_div-d : goal.nonzero_div-d
nonzero_div-d c =
    let fn : SFits w128 c.args.num = search rules in
    let fd : SFits w128 c.args.den = search rules in
    let en = c.unsigned_abs-size.ensures.value in
    let ed = c.unsigned_abs-den_size.ensures.value in
    let some : c.args.den ≢ pos 0 = λ e. c.if-den-eq0.false (ap (of_z w128) e) in
    let t = lowest_parts c.args.num c.args.den c.unsigned_abs-size.result c.unsigned_abs-den_size.result c.gcd-g.result (simp to_z-of_z at en) (simp to_z-of_z at ed) some c.gcd-g.ensures in
    t.some

pub returns-then-n-bound : goal.returns-then-n-bound
returns-then-n-bound c =
    let fn : SFits w128 c.args.num = search rules in
    let fd : SFits w128 c.args.den = search rules in
    let en = c.unsigned_abs-size.ensures.value in
    let ed = c.unsigned_abs-den_size.ensures.value in
    let some : c.args.den ≢ pos 0 = λ e. c.if-den-eq0.false (ap (of_z w128) e) in
    let t = lowest_parts c.args.num c.args.den c.unsigned_abs-size.result c.unsigned_abs-den_size.result c.gcd-g.result (simp to_z-of_z at en) (simp to_z-of_z at ed) some c.gcd-g.ensures in
    unfit_num c.args.bound c.args.num c.args.den c.gcd-g.result (c.unsigned_abs-size.result / c.gcd-g.result) (c.unsigned_abs-den_size.result / c.gcd-g.result) t c.if-n-bound.true

pub returns-then-d-bound : goal.returns-then-d-bound
returns-then-d-bound c =
    let fn : SFits w128 c.args.num = search rules in
    let fd : SFits w128 c.args.den = search rules in
    let en = c.unsigned_abs-size.ensures.value in
    let ed = c.unsigned_abs-den_size.ensures.value in
    let some : c.args.den ≢ pos 0 = λ e. c.if-den-eq0.false (ap (of_z w128) e) in
    let t = lowest_parts c.args.num c.args.den c.unsigned_abs-size.result c.unsigned_abs-den_size.result c.gcd-g.result (simp to_z-of_z at en) (simp to_z-of_z at ed) some c.gcd-g.ensures in
    unfit_den c.args.bound c.args.num c.args.den c.gcd-g.result (c.unsigned_abs-size.result / c.gcd-g.result) (c.unsigned_abs-den_size.result / c.gcd-g.result) t c.if-d-bound.true

pub returns : goal.returns
returns c =
    let fn : SFits w128 c.args.num = search rules in
    let fd : SFits w128 c.args.den = search rules in
    let en = c.unsigned_abs-size.ensures.value in
    let ed = c.unsigned_abs-den_size.ensures.value in
    let some : c.args.den ≢ pos 0 = λ e. c.if-den-eq0.false (ap (of_z w128) e) in
    let t = lowest_parts c.args.num c.args.den c.unsigned_abs-size.result c.unsigned_abs-den_size.result c.gcd-g.result (simp to_z-of_z at en) (simp to_z-of_z at ed) some c.gcd-g.ensures in
    let fs : SFits w128 c.signed.result = search rules in
    let short : c.unsigned_abs-den_size.result / c.gcd-g.result < 2 ^ 127 = omega arith in
    let same : to_z w128 (c.unsigned_abs-den_size.result / c.gcd-g.result) ≡ pos (c.unsigned_abs-den_size.result / c.gcd-g.result) = omega (arith, ints, short) in
    let hs = c.signed.ensures in
    let es : c.signed.result ≡ sign_of c.args.num c.args.den (c.unsigned_abs-size.result / c.gcd-g.result) = simp to_z-of_z at hs in (
      some,
      subst (λ z. IsReduced c.args.bound z (to_z w128 (c.unsigned_abs-den_size.result / c.gcd-g.result)) c.args.num c.args.den) (sym (to_z-of_z fs ∙ es))
          (subst (λ z. IsReduced c.args.bound (sign_of c.args.num c.args.den (c.unsigned_abs-size.result / c.gcd-g.result)) z c.args.num c.args.den) (sym same)
          (reduced_of c.args.bound c.args.num c.args.den c.gcd-g.result (c.unsigned_abs-size.result / c.gcd-g.result) (c.unsigned_abs-den_size.result / c.gcd-g.result) t c.if-n-bound.false c.if-d-bound.false)),
    )
