use Rattle.std.proofs.Common.{rules, ◌≡◌, ◌∙◌, ◌+◌, ◌++◌, [], ◌∷◌, ap, sym, subst, map, ◌*ℤ◌, unsigned_abs, SFits, to_z-of_z}
use Rattle.std.specs.List.{list_all}
use Rattle.std.specs.Int.{w128, ◌∣◌}
use Rattle.exact_num.specs.Work.{below}
use Rattle.exact_num.specs.Multiples.{Divides}
use Rattle.exact_num.specs.Denominators.{nums_over}
use Rattle.exact_num.proofs.Commons.{from, divides_here, nums_step, fits_step, fits_misfit, nums_end, fits_end}
use Rattle.exact_num.proofs.denominators.numerators.Goals as goal

pub quotient-times-requires-clause-divides : goal.quotient-times-requires-clause-divides
quotient-times-requires-clause-divides g c =
    let fd : SFits w128 c.args.den = search rules in
    let fo : SFits w128 c.den.result = search rules in
    let other = c.den.ensures in
    let inv = c.loop-x.invariant.divides in
    let h = (divides_here g.F.Fraction.value (unsigned_abs c.args.den) c.loop-x.x-index c.args.list.now c.x-item.result c.loop-x-test.true c.x-item.is (simp to_z-of_z at inv)).0 in
    let k : unsigned_abs c.den.result ∣ unsigned_abs c.args.den = subst (λ z. unsigned_abs z ∣ unsigned_abs c.args.den) (sym other) h in
    simp to_z-of_z k

pub returns-in_default : goal.returns-in_default
returns-in_default g c =
    let fd : SFits w128 c.args.den = search rules in
    let fo : SFits w128 c.den.result = search rules in
    let ft : SFits w128 c.quotient-times.result = search rules in
    let fn : SFits w128 c.num.result = search rules in
    let hq = c.quotient-times.ensures in
    let other = c.den.ensures in
    let top = c.num.ensures in
    let whole : c.quotient-times.result *ℤ (g.F.Fraction.value c.x-item.result).den ≡ c.args.den = ap (λ z. c.quotient-times.result *ℤ z) (sym other) ∙ (simp to_z-of_z at hq) in
    let misfit = c.in_default.ensures in
    let inv = c.loop-x.invariant.fits in
    fits_misfit g.F.Fraction.value c.args.list.now c.loop-x.x-index c.x-item.result c.args.den c.quotient-times.result c.loop-x-test.true c.x-item.is whole c.args.bound (list_all (below c.args.bound) (nums_over c.args.den (map g.F.Fraction.value c.args.list.now))) (ap (λ z. below c.args.bound (z *ℤ c.quotient-times.result)) (sym top) ∙ (simp to_z-of_z at misfit)) (simp to_z-of_z at inv)

pub loop-x-preserved : goal.loop-x-preserved
loop-x-preserved g c =
    let fd : SFits w128 c.args.den = search rules in
    let fo : SFits w128 c.den.result = search rules in
    let ft : SFits w128 c.quotient-times.result = search rules in
    let fn : SFits w128 c.num.result = search rules in
    let hq = c.quotient-times.ensures in
    let other = c.den.ensures in
    let top = c.num.ensures in
    let whole : c.quotient-times.result *ℤ (g.F.Fraction.value c.x-item.result).den ≡ c.args.den = ap (λ z. c.quotient-times.result *ℤ z) (sym other) ∙ (simp to_z-of_z at hq) in
    let fm : SFits w128 c.in-Some.num = search rules in
    let hn = c.in-Some.ensures.0 in
    let room = c.in-Some.ensures.1 in
    let divides = c.loop-x.invariant.divides in
    let sofar = c.loop-x.invariant.whole in
    let fits = c.loop-x.invariant.fits in
    let pushed : c.push.new.self.items ≡ c.loop-x.nums.items ++ c.in-Some.num ∷ [] = search rules in
    let num : c.in-Some.num ≡ (g.F.Fraction.value c.x-item.result).num *ℤ c.quotient-times.result = (simp to_z-of_z at hn) ∙ ap (λ z. z *ℤ c.quotient-times.result) top in
    let more : Divides (unsigned_abs c.args.den) (from g.F.Fraction.value (c.loop-x.x-index + 1) c.args.list.now) = (divides_here g.F.Fraction.value (unsigned_abs c.args.den) c.loop-x.x-index c.args.list.now c.x-item.result c.loop-x-test.true c.x-item.is (simp to_z-of_z at divides)).1 in
    let step = nums_step g.F.Fraction.value c.args.list.now c.loop-x.x-index c.x-item.result c.args.den c.quotient-times.result c.loop-x-test.true c.x-item.is whole c.loop-x.nums.items (nums_over c.args.den (map g.F.Fraction.value c.args.list.now)) (simp to_z-of_z at sofar) in
    let whole_now : c.push.new.self.items ++ nums_over c.args.den (from g.F.Fraction.value (c.loop-x.x-index + 1) c.args.list.now) ≡ nums_over c.args.den (map g.F.Fraction.value c.args.list.now) =
    ap (λ v. v ++ nums_over c.args.den (from g.F.Fraction.value (c.loop-x.x-index + 1) c.args.list.now)) (pushed ∙ ap (λ n. c.loop-x.nums.items ++ n ∷ []) num) ∙ step in
    let fits_now = fits_step g.F.Fraction.value c.args.list.now c.loop-x.x-index c.x-item.result c.args.den c.quotient-times.result c.loop-x-test.true c.x-item.is whole c.args.bound (list_all (below c.args.bound) (nums_over c.args.den (map g.F.Fraction.value c.args.list.now))) (ap (λ z. below c.args.bound (z *ℤ c.quotient-times.result)) (sym top) ∙ (simp to_z-of_z at room)) (simp to_z-of_z at fits) in
    record { divides = simp to_z-of_z more; whole = simp to_z-of_z whole_now; fits = simp to_z-of_z fits_now }

pub returns : goal.returns
returns g c =
    let fd : SFits w128 c.args.den = search rules in
    let sofar = c.loop-x.invariant.whole in
    let fits = c.loop-x.invariant.fits in (
      fits_end g.F.Fraction.value c.args.den c.loop-x.x-index c.args.list.now c.args.bound (list_all (below c.args.bound) (nums_over c.args.den (map g.F.Fraction.value c.args.list.now))) c.loop-x-test.false (simp to_z-of_z at fits),
      nums_end g.F.Fraction.value c.args.den c.loop-x.x-index c.args.list.now c.loop-x.nums.items (nums_over c.args.den (map g.F.Fraction.value c.args.list.now)) c.loop-x-test.false (simp to_z-of_z at sofar),
    )
