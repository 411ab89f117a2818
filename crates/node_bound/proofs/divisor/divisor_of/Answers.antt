use Rattle.std.proofs.Common.{rules, refl, subst, SFits, to_z-of_z, length, ◌≡◌, arith}
use Rattle.std.specs.Prelude.{unsigned_abs}
use mir.Syntax.{w128}
use mir.Val.{to_z, of_z}
use Rattle.exact_simplex.specs.Task.{int_at}
use Rattle.node_bound.specs.Terms.{IsGreatest}
use Rattle.node_bound.proofs.DivisorLaws.{plain_at, greatest_step}
use Rattle.node_bound.proofs.divisor.divisor_of.Goals as goal

pub loop-number-preserved : goal.loop-number-preserved
loop-number-preserved c =
    let fits : SFits w128 c.joined-divisor.result = search rules in
    let numbers = c.args.numbers.now in
    let n = c.loop-number.number-index in
    let scale = to_z w128 (of_z w128 c.args.scale) in
    record {
      greatest = greatest_step (to_z w128 c.loop-number.divisor-bits) c.joined-divisor.result (to_z w128 (of_z w128 c.joined-divisor.result)) scale scale (to_z w128 (of_z w128 (int_at numbers n))) numbers n
          (to_z-of_z fits) refl (plain_at numbers n c.requires.small c.loop-number-test.true) c.loop-number.invariant.greatest c.joined-divisor.ensures.gcd;
      not_negative = search rules;
    }

pub returns-clause-greatest : goal.returns-clause-greatest
returns-clause-greatest c =
    let numbers = c.args.numbers.now in
    let end : c.loop-number.number-index ≡ length numbers = omega (arith, c.loop-number-test.false, c.loop-number.auto.number-index-end) in
    subst (λ n. IsGreatest (unsigned_abs (to_z w128 c.loop-number.divisor-bits)) c.args.scale numbers n) end
    (subst (λ z. IsGreatest (unsigned_abs (to_z w128 c.loop-number.divisor-bits)) z numbers c.loop-number.number-index) (to_z-of_z c.ranges.scale) c.loop-number.invariant.greatest)
