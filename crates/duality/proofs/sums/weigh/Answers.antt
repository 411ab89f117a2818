use Rattle.std.proofs.Common.{arith}
use Rattle.std.proofs.lemmas.Int.{ints}
use Rattle.duality.specs.Sums.{weighed}
use Rattle.duality.proofs.PricedLaws.{total-drop}
use Rattle.duality.proofs.sums.weigh.Goals as goal

pub loop-pattern-preserved : goal.loop-pattern-preserved
loop-pattern-preserved g c =
    let step = total-drop (weighed (record { weight = g.O.Objective.weight c.args.objective.now; floor = g.O.Objective.floor c.args.objective.now }) c.args.what) c.args.patterns.now c.loop-pattern.pattern-index 0 (omega arith) in
    let before = c.loop-pattern.invariant in
    let small = c.weight_of-sum.ensures.small in
    record {
      rest = omega (arith, ints, step, before.rest, before.small.low, before.small.high, small.low, small.high, c.weight_of-sum.ensures.value);
      small = record {
        low = omega (arith, ints, before.small.low, before.small.high, small.low, small.high);
        high = omega (arith, ints, before.small.low, before.small.high, small.low, small.high);
      };
    }
