use Rattle.std.proofs.Math.Nat.{one-dvd}
use Rattle.std.specs.Int.{w128, ◌∣◌}
use Rattle.std.proofs.Common.{rules, ◌≡◌, pos, SFits, to_z, to_z-of_z, arith, ◌∙◌, subst, sym, ap, unsigned_abs}
use Rattle.std.specs.Int.{IsGcd}
use Rattle.std.proofs.lemmas.Int.{ints}
use Rattle.exact_num.proofs.Division.{small_divisor, passed}
use Rattle.exact_num.proofs.parts.common_divisor.Goals as goal

pub overflow_cast-result : goal.overflow_cast-result
overflow_cast-result c =
    let s = small_divisor c.args.a c.args.b c.unsigned_abs.result c.unsigned_abs-2.result c.gcd-g.result (c.unsigned_abs.ensures.value ∙ ap unsigned_abs (passed c.args.a c.ranges.a)) (c.unsigned_abs-2.ensures.value ∙ ap unsigned_abs (passed c.args.b c.ranges.b)) c.gcd-g.ensures c.requires c.ranges.b in
    omega (arith, ints, s.1)

pub returns-clause-gcd : goal.returns-clause-gcd
returns-clause-gcd c =
    let s = small_divisor c.args.a c.args.b c.unsigned_abs.result c.unsigned_abs-2.result c.gcd-g.result (c.unsigned_abs.ensures.value ∙ ap unsigned_abs (passed c.args.a c.ranges.a)) (c.unsigned_abs-2.ensures.value ∙ ap unsigned_abs (passed c.args.b c.ranges.b)) c.gcd-g.ensures c.requires c.ranges.b in
    subst (λ z. IsGcd (unsigned_abs c.args.a) (unsigned_abs c.args.b) (unsigned_abs z)) (sym s.2) s.3

pub returns-clause-positive : goal.returns-clause-positive
returns-clause-positive c =
    let s = small_divisor c.args.a c.args.b c.unsigned_abs.result c.unsigned_abs-2.result c.gcd-g.result (c.unsigned_abs.ensures.value ∙ ap unsigned_abs (passed c.args.a c.ranges.a)) (c.unsigned_abs-2.ensures.value ∙ ap unsigned_abs (passed c.args.b c.ranges.b)) c.gcd-g.ensures c.requires c.ranges.b in
    omega (arith, ints, s.0, s.2)

pub returns-then-b-eq1-clause-gcd : goal.returns-then-b-eq1-clause-gcd
returns-then-b-eq1-clause-gcd c =
    let f : SFits w128 c.args.b = search rules in
    let one : c.args.b ≡ pos 1 = sym (to_z-of_z f) ∙ ap (to_z w128) c.if-b-eq1.true in
    (one-dvd (unsigned_abs c.args.a), one-dvd (unsigned_abs c.args.b), λ d p q. subst (λ z. d ∣ unsigned_abs z) one q)
