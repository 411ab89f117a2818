use Rattle.std.proofs.Common.{rules, arith, ◌≡◌, ◌<◌, ◌+◌, ◌∙◌, ap, sym, subst, map, pos, ◌<ℤ◌, ◌*ℤ◌, unsigned_abs, true, SFits, to_z, to_z-of_z}
use Rattle.std.specs.Int.{w128, IsGcd}
use Rattle.std.proofs.lemmas.Int.{ints}
use Rattle.numbers.specs.Algebra.{*ℤ-positive}
use Rattle.exact_num.specs.Work.{below}
use Rattle.exact_num.specs.Multiples.{least_den}
use Rattle.exact_num.proofs.Division.{below_fits, quotient_positive, size-positive}
use Rattle.exact_num.proofs.Commons.{rest_den, den_step, den_misfit, den_end, whole_den}
use Rattle.exact_num.proofs.denominators.least_common.Goals as goal

pub loop-x-init : goal.loop-x-init
loop-x-init g c = record {
  positive = omega (arith, ints);
  fits = c.requires.one;
  same = whole_den g.F.Fraction.value c.args.list.now;
}

pub quotient-requires-clause-divides : goal.quotient-requires-clause-divides
quotient-requires-clause-divides g c =
    let fo : SFits w128 c.den-other.result = search rules in
    let fg : SFits w128 c.common_divisor-g.result = search rules in
    let h = c.common_divisor-g.ensures.gcd.1 in
    simp to_z-of_z (simp to_z-of_z at h)

pub returns-in_default : goal.returns-in_default
returns-in_default g c =
    let fo : SFits w128 c.den-other.result = search rules in
    let fg : SFits w128 c.common_divisor-g.result = search rules in
    let fq : SFits w128 c.quotient.result = search rules in
    let other = c.den-other.ensures in
    let hg = c.common_divisor-g.ensures.gcd in
    let hq = c.quotient.ensures in
    let is : IsGcd (unsigned_abs (to_z w128 c.loop-x.den-bits)) (unsigned_abs (g.F.Fraction.value c.x-item.result).den) (unsigned_abs c.common_divisor-g.result) = subst (λ z. IsGcd (unsigned_abs (to_z w128 c.loop-x.den-bits)) (unsigned_abs z) (unsigned_abs c.common_divisor-g.result)) other (simp to_z-of_z at hg) in
    let whole : c.quotient.result *ℤ c.common_divisor-g.result ≡ (g.F.Fraction.value c.x-item.result).den = (simp to_z-of_z at hq) ∙ other in
    let size : pos (unsigned_abs (to_z w128 c.loop-x.den-bits)) ≡ (to_z w128 c.loop-x.den-bits) = size-positive (to_z w128 c.loop-x.den-bits) c.loop-x.invariant.positive in
    let misfit = c.in_default.ensures in
    let over = den_misfit g.F.Fraction.value c.args.list.now c.loop-x.x-index c.x-item.result (to_z w128 c.loop-x.den-bits) c.common_divisor-g.result c.quotient.result c.loop-x-test.true c.x-item.is is whole c.args.bound (omega (arith, ints, size, c.loop-x.invariant.positive)) (simp to_z-of_z at misfit) in
    omega (arith, over, c.loop-x.invariant.same)

pub loop-x-preserved : goal.loop-x-preserved
loop-x-preserved g c =
    let fo : SFits w128 c.den-other.result = search rules in
    let fg : SFits w128 c.common_divisor-g.result = search rules in
    let fq : SFits w128 c.quotient.result = search rules in
    let other = c.den-other.ensures in
    let hg = c.common_divisor-g.ensures.gcd in
    let hq = c.quotient.ensures in
    let is : IsGcd (unsigned_abs (to_z w128 c.loop-x.den-bits)) (unsigned_abs (g.F.Fraction.value c.x-item.result).den) (unsigned_abs c.common_divisor-g.result) = subst (λ z. IsGcd (unsigned_abs (to_z w128 c.loop-x.den-bits)) (unsigned_abs z) (unsigned_abs c.common_divisor-g.result)) other (simp to_z-of_z at hg) in
    let whole : c.quotient.result *ℤ c.common_divisor-g.result ≡ (g.F.Fraction.value c.x-item.result).den = (simp to_z-of_z at hq) ∙ other in
    let fb : SFits w128 c.in-Some.both = search rules in
    let hb = c.in-Some.ensures.0 in
    let room = c.in-Some.ensures.1 in
    let both : c.in-Some.both ≡ (to_z w128 c.loop-x.den-bits) *ℤ c.quotient.result = simp to_z-of_z at hb in
    let some : pos 0 <ℤ c.quotient.result = quotient_positive c.quotient.result c.common_divisor-g.result (g.F.Fraction.value c.x-item.result).den whole c.common_divisor-g.ensures.positive (g.F.Fraction.value c.x-item.result).low.positive in
    let p : pos 0 <ℤ c.in-Some.both = subst (λ z. pos 0 <ℤ z) (sym both) (*ℤ-positive (to_z w128 c.loop-x.den-bits) c.quotient.result c.loop-x.invariant.positive some) in
    let room_both : below c.args.bound ((to_z w128 c.loop-x.den-bits) *ℤ c.quotient.result) ≡ true = simp to_z-of_z at room in
    let f : unsigned_abs c.in-Some.both < c.args.bound = subst (λ z. unsigned_abs z < c.args.bound) (sym both) (below_fits c.args.bound ((to_z w128 c.loop-x.den-bits) *ℤ c.quotient.result) room_both) in
    let e : rest_den g.F.Fraction.value (unsigned_abs c.in-Some.both) (c.loop-x.x-index + 1) c.args.list.now ≡ least_den (map g.F.Fraction.value c.args.list.now) =
    ap (λ z. rest_den g.F.Fraction.value (unsigned_abs z) (c.loop-x.x-index + 1) c.args.list.now) both ∙ den_step g.F.Fraction.value c.args.list.now c.loop-x.x-index c.x-item.result (to_z w128 c.loop-x.den-bits) c.common_divisor-g.result c.quotient.result c.loop-x-test.true c.x-item.is is whole ∙ c.loop-x.invariant.same in
    record { positive = simp to_z-of_z p; fits = simp to_z-of_z f; same = simp to_z-of_z e }

pub returns : goal.returns
returns g c =
    let size : pos (unsigned_abs (to_z w128 c.loop-x.den-bits)) ≡ (to_z w128 c.loop-x.den-bits) = size-positive (to_z w128 c.loop-x.den-bits) c.loop-x.invariant.positive in
    let e : unsigned_abs (to_z w128 c.loop-x.den-bits) ≡ least_den (map g.F.Fraction.value c.args.list.now) = den_end g.F.Fraction.value c.args.list.now c.loop-x.x-index (unsigned_abs (to_z w128 c.loop-x.den-bits)) (least_den (map g.F.Fraction.value c.args.list.now)) c.loop-x-test.false c.loop-x.invariant.same in
    (sym size ∙ ap pos e, subst (λ m. m < c.args.bound) e c.loop-x.invariant.fits)
