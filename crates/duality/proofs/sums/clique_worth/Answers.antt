use Rattle.std.proofs.Common.{arith, ◌≡◌, get_or}
use Rattle.std.proofs.lemmas.Int.{ints}
use Rattle.numbers.specs.Sums.{picked}
use Rattle.duality.specs.declared.row.Term.{Term}
use Rattle.duality.specs.Sums.{is_clique, no_term}
use Rattle.duality.proofs.PricedLaws.{total-drop}
use Rattle.duality.proofs.sums.clique_worth.Goals as goal

pub loop-term-preserved : goal.loop-term-preserved
loop-term-preserved c =
    let i = c.loop-term.term-index in
    let term : Term = get_or c.args.terms.now i no_term in
    let step = total-drop (λ (t : Term). picked (is_clique t.row) t.times) c.args.terms.now i no_term (omega arith) in
    let before = c.loop-term.invariant in
    let small = c.clique_times.ensures.small in
    let here : c.clique_times.result ≡ picked (is_clique term.row) term.times = c.clique_times.ensures.value in
    record {
      rest = omega (arith, ints, step, here, before.rest, before.small.low, before.small.high, small.low, small.high, c.added-sum.ensures);
      small = record {
        low = omega (arith, ints, before.small.low, before.small.high, small.low, small.high, c.added-sum.ensures);
        high = omega (arith, ints, before.small.low, before.small.high, small.low, small.high, c.added-sum.ensures);
      };
    }
