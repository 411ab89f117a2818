use Rattle.std.proofs.Common.{rules, sym, ap, ◌∙◌, ◌≡◌, subst, SFits, to_z-of_z, pos}
use Rattle.std.specs.Prelude.{unsigned_abs}
use Rattle.std.specs.Int.{IsGcd}
use mir.Syntax.{w128}
use mir.Val.{to_z, of_z}
use Rattle.std.proofs.lemmas.Nat.Gcd.{IsGcd-from_zero}
use Rattle.node_bound.proofs.DivisorLaws.{gcd_same}
use Rattle.node_bound.proofs.divisor.joined.Goals as goal

pub returns-then-divisor-eq0-clause-gcd : goal.returns-then-divisor-eq0-clause-gcd
returns-then-divisor-eq0-clause-gcd c =
    let fits : SFits w128 c.abs.result = search rules in
    let a = unsigned_abs c.args.number in
    let b = unsigned_abs c.args.divisor in
    let none : c.args.divisor ≡ pos 0 = sym (to_z-of_z c.ranges.divisor) ∙ ap (to_z w128) c.if-divisor-eq0.true in
    let is : c.abs.result ≡ pos a = c.abs.ensures.value ∙ ap (λ z. pos (unsigned_abs z)) (to_z-of_z c.ranges.number) in
    subst (λ z. IsGcd a b (unsigned_abs z)) (sym (to_z-of_z fits))
    (subst (λ z. IsGcd a b (unsigned_abs z)) (sym is) (IsGcd-from_zero a b (ap unsigned_abs none)))

pub returns-clause-gcd : goal.returns-clause-gcd
returns-clause-gcd c =
    let fits : SFits w128 c.common_divisor.result = search rules in
    gcd_same c.args.number (to_z w128 (of_z w128 c.args.number)) c.args.divisor (to_z w128 (of_z w128 c.args.divisor)) c.common_divisor.result (to_z w128 (of_z w128 c.common_divisor.result))
    (to_z-of_z c.ranges.number) (to_z-of_z c.ranges.divisor) (to_z-of_z fits) c.common_divisor.ensures.gcd
