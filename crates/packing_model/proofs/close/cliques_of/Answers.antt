use Rattle.std.proofs.Common.{◌≡◌, arith}
use Rattle.std.specs.Prelude.{◌+ℤ◌}
use Rattle.std.proofs.lemmas.Int.{ints}
use mir.Syntax.{w128}
use mir.Val.{to_z, of_z}
use Rattle.duality.specs.Packing.{Packing, Weights, Stage}
use Rattle.packing_model.specs.Built.{packing}
use Rattle.packing_model.specs.Nodes.{stage_at}
use Rattle.packing_model.specs.Closing.{counted}
use Rattle.duality.specs.Sums.{clique_priced}
use Rattle.packing_model.proofs.SumLemmas.{total_step}
use Rattle.packing_model.proofs.close.cliques_of.Goals as goal

pub loop-pattern-preserved : goal.loop-pattern-preserved
loop-pattern-preserved g c =
    let k : Packing = packing c.args.at.now.model.now in
    let w : Weights = counted (g.O.Objective.weight c.args.at.now.objective.now) (g.O.Objective.floor c.args.at.now.objective.now) in
    let s : Stage = stage_at c.args.at.now.level c.args.at.now.targets.now c.args.at.now.best c.args.at.now.pool.now in
    let before = c.loop-pattern.invariant in
    let small = c.cliques_at.ensures.small in
    let sum : to_z w128 (of_z w128 c.added-sum.result) ≡ to_z w128 c.loop-pattern.sum-bits +ℤ c.cliques_at.result =
    omega (arith, ints, before.small.low, before.small.high, small.low, small.high, c.added-sum.ensures) in
    record {
      rest = total_step (clique_priced k w s c.args.terms.now) c.args.taken.now c.loop-pattern.pattern-index (to_z w128 c.loop-pattern.sum-bits) c.cliques_at.result (to_z w128 (of_z w128 c.added-sum.result)) (omega arith) before.rest c.cliques_at.ensures.value sum;
      small = record {
        low = omega (arith, ints, before.small.low, before.small.high, small.low, small.high, sum);
        high = omega (arith, ints, before.small.low, before.small.high, small.low, small.high, sum);
      };
    }
