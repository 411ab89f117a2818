use Rattle.std.proofs.Common.{rules, arith, ◌≡◌, ◌^◌, ◌-ℤ◌, neg_ℤ, pos, ℤ, subst, SFits, to_z-of_z}
use Rattle.std.specs.Int.{w128}
use Rattle.std.specs.List.{list_all}
use Rattle.std.proofs.lemmas.Int.{ints}
use Rattle.exact_num.specs.Over.{over_self}
use Rattle.exact_num.specs.Ops.{◌+ℚ◌, neg_ℚ, neg-over}
use Rattle.exact_num.specs.Work.{below, difference_work}
use Rattle.exact_num.specs.Value128.{value_128}
use Rattle.exact_num.proofs.Settled.{settled, sum-over, low_neg}
use Rattle.exact_num.proofs.exact.Exact128Arith.sub.Goals as goal

minus : (z : ℤ) → pos 0 -ℤ z ≡ neg_ℤ z
minus z = omega (arith, ints)

pub sum_parts-found-requires-clause-second : goal.sum_parts-found-requires-clause-second
sum_parts-found-requires-clause-second c =
    let f0 : SFits w128 c.args.a.num = search rules in
    let f1 : SFits w128 c.args.a.den = search rules in
    let f2 : SFits w128 c.args.b.num = search rules in
    let f3 : SFits w128 c.args.b.den = search rules in
    let e : SFits w128 (pos 0 -ℤ c.args.b.num) = search rules in
    let g : SFits w128 (neg_ℤ c.args.b.num) = subst (λ k. SFits w128 k) (minus c.args.b.num) e in
    let h = low_neg c.args.b.num c.args.b.den c.args.b.low in
    simp (to_z-of_z, minus) h

pub returns : goal.returns
returns c =
    let f0 : SFits w128 c.args.a.num = search rules in
    let f1 : SFits w128 c.args.a.den = search rules in
    let f2 : SFits w128 c.args.b.num = search rules in
    let f3 : SFits w128 c.args.b.den = search rules in
    let e : SFits w128 (pos 0 -ℤ c.args.b.num) = search rules in
    let g : SFits w128 (neg_ℤ c.args.b.num) = subst (λ k. SFits w128 k) (minus c.args.b.num) e in
    let h = c.sum_parts-found.ensures in
    settled value_128 (2 ^ 127) (list_all (below (2 ^ 127)) (difference_work (value_128 c.args.a) (value_128 c.args.b))) _ _ ((value_128 c.args.a) +ℚ neg_ℚ (value_128 c.args.b)) _ _ c.sum_parts-found.result c.settled.result
    (simp (to_z-of_z, minus) at h) c.settled.ensures
    (sum-over (value_128 c.args.a) (neg_ℚ (value_128 c.args.b)) c.args.a.num c.args.a.den (neg_ℤ c.args.b.num) c.args.b.den (over_self (value_128 c.args.a)) (neg-over (value_128 c.args.b) c.args.b.num c.args.b.den (over_self (value_128 c.args.b))))
