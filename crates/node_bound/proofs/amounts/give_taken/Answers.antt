use Rattle.std.proofs.Common.{sym, ap, subst, ◌∙◌, ◌<◌, length, arith}
use Rattle.std.proofs.Math.ListN.{length-set}
use Rattle.exact_simplex.specs.Task.{int_at}
use Rattle.node_bound.specs.Tasks.{column_at}
use Rattle.node_bound.proofs.AmountLaws.{small_plain, below_at, other_at, place_of, kept, taken_more}
use Rattle.node_bound.proofs.amounts.give_taken.Goals as goal

pub loop-pattern-preserved : goal.loop-pattern-preserved
loop-pattern-preserved c =
    let one = c.args.one.now in
    let zs = c.loop-pattern.amounts.items in
    let n = c.loop-pattern.pattern-index in
    let was = c.loop-pattern.invariant in
    let plain = small_plain c.args.den c.requires.den in
    let place = subst (λ m. column_at one n < m) (sym was.one_each) (below_at (length c.args.amounts.now.items) one n c.requires.known c.loop-pattern-test.true) in
    record {
      one_each = simp length-set was.one_each;
      given = λ j l. taken_more one zs n c.args.den _ place plain (λ i m. was.given i m ∙ plain) j l ∙ sym plain;
      same = λ p out. kept zs (column_at one n) p _ (other_at one n p c.loop-pattern-test.true out) ∙ was.same p out;
    }

pub returns-clause-given : goal.returns-clause-given
returns-clause-given c = λ p in_one.
    let at = place_of p c.args.one.now in_one in
    ap (int_at c.loop-pattern.amounts.items) (sym at.2) ∙ c.loop-pattern.invariant.given at.0 (omega (arith, at.1)) ∙ small_plain c.args.den c.requires.den
