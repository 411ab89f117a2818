use Rattle.std.proofs.Common.{rules, arith, ◌≡◌, subst, SFits, to_z-of_z, ℤ, pos, ◌-ℤ◌, neg_ℤ}
use Rattle.std.specs.Int.{w128}
use Rattle.std.proofs.lemmas.Int.{ints}
use Rattle.exact_num.proofs.Settled.{low_negative, low_positive, quotient_negative, quotient_positive}
use Rattle.exact_num.proofs.parts.quotient_parts.Goals as goal

minus : (z : ℤ) → pos 0 -ℤ z ≡ neg_ℤ z
minus z = omega (arith, ints)

pub product_parts-requires-clause-second : goal.product_parts-requires-clause-second
product_parts-requires-clause-second c =
    let fc : SFits w128 c.args.c = search rules in
    let fd : SFits w128 c.args.d = search rules in
    let ec : SFits w128 (pos 0 -ℤ c.args.c) = search rules in
    let ed : SFits w128 (pos 0 -ℤ c.args.d) = search rules in
    let gc : SFits w128 (neg_ℤ c.args.c) = subst (λ k. SFits w128 k) (minus c.args.c) ec in
    let gd : SFits w128 (neg_ℤ c.args.d) = subst (λ k. SFits w128 k) (minus c.args.d) ed in
    let h = low_negative c.args.c c.args.d (omega (arith, ints)) c.requires.second in
    simp (to_z-of_z, minus) h

pub returns-then-c-lt0 : goal.returns-then-c-lt0
returns-then-c-lt0 c =
    let fa : SFits w128 c.args.a = search rules in
    let fb : SFits w128 c.args.b = search rules in
    let fc : SFits w128 c.args.c = search rules in
    let fd : SFits w128 c.args.d = search rules in
    let ec : SFits w128 (pos 0 -ℤ c.args.c) = search rules in
    let ed : SFits w128 (pos 0 -ℤ c.args.d) = search rules in
    let gc : SFits w128 (neg_ℤ c.args.c) = subst (λ k. SFits w128 k) (minus c.args.c) ec in
    let gd : SFits w128 (neg_ℤ c.args.d) = subst (λ k. SFits w128 k) (minus c.args.d) ed in
    let h = c.product_parts.ensures in
    quotient_negative c.args.bound c.args.a c.args.b c.args.c c.args.d c.product_parts.result (omega (arith, ints)) (simp (to_z-of_z, minus) at h)

pub product_parts-requires-2-clause-second : goal.product_parts-requires-2-clause-second
product_parts-requires-2-clause-second c =
    let fc : SFits w128 c.args.c = search rules in
    let fd : SFits w128 c.args.d = search rules in
    let h = low_positive c.args.c c.args.d c.requires.some (omega (arith, ints)) c.requires.second in
    simp to_z-of_z h

pub returns : goal.returns
returns c =
    let fa : SFits w128 c.args.a = search rules in
    let fb : SFits w128 c.args.b = search rules in
    let fc : SFits w128 c.args.c = search rules in
    let fd : SFits w128 c.args.d = search rules in
    let h = c.product_parts-2.ensures in
    quotient_positive c.args.bound c.args.a c.args.b c.args.c c.args.d c.product_parts-2.result (omega (arith, ints)) (simp to_z-of_z at h)
