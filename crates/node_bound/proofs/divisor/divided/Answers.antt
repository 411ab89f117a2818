use Rattle.std.proofs.Common.{rules, ℕ, ◌<◌, List, [], ◌∷◌, ◌++◌, ap, ◌+◌, sym, subst, SFits, to_z-of_z, length, ◌∙◌, ◌≡◌}
use Rattle.std.specs.Prelude.{ℤ, unsigned_abs, ◌*ℤ◌}
use Rattle.std.specs.Int.{◌∣◌}
use mir.Syntax.{w128}
use mir.Val.{to_z, of_z}
use Rattle.exact_simplex.specs.Task.{int_at}
use Rattle.std.proofs.lemmas.List.{length-append}
use Rattle.node_bound.proofs.DivisorLaws.{plain_at, part_more}
use Rattle.node_bound.proofs.divisor.divided.Goals as goal

pub quotient-requires-clause-divides : goal.quotient-requires-clause-divides
quotient-requires-clause-divides c =
    let numbers = c.args.numbers.now in
    let n = c.loop-number.number-index in
    subst (λ z. unsigned_abs z ∣ unsigned_abs (to_z w128 (of_z w128 (int_at numbers n)))) (sym (to_z-of_z c.ranges.divisor))
    (subst (λ z. unsigned_abs c.args.divisor ∣ unsigned_abs z) (sym (plain_at numbers n c.requires.small c.loop-number-test.true)) (c.requires.divides n c.loop-number-test.true))

pub loop-number-preserved : goal.loop-number-preserved
loop-number-preserved c =
    let fits : SFits w128 c.quotient.result = search rules in
    let numbers = c.args.numbers.now in
    let n = c.loop-number.number-index in
    let parts = c.loop-number.parts in
    let divisor = to_z w128 (of_z w128 c.args.divisor) in
    let is : c.quotient.result *ℤ divisor ≡ int_at numbers n = c.quotient.ensures ∙ plain_at numbers n c.requires.small c.loop-number-test.true in
    let made : c.push.new.self ≡ parts ++ c.quotient.result ∷ [] = c.in_ok-push.ensures.ok ∙ ap (λ q. parts ++ q ∷ []) (to_z-of_z fits) in
    record {
      one_each = ap length made ∙ length-append parts (c.quotient.result ∷ []) ∙ ap (λ m. m + 1) c.loop-number.invariant.one_each;
      each = subst (λ (ps : List ℤ). (i : ℕ) → i < n + 1 → int_at ps i *ℤ divisor ≡ int_at numbers i) (sym made) (part_more divisor parts numbers n c.quotient.result c.loop-number.invariant.one_each is c.loop-number.invariant.each);
    }
