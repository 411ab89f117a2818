use Rattle.std.proofs.Common.{arith, subst, ◌≤◌}
use Rattle.duality.specs.Sums.{AreLevelTimes}
use Rattle.duality.specs.Packing.{Weights}
use Rattle.packing_model.specs.Built.{packing}
use Rattle.packing_model.specs.Closing.{counted}
use Rattle.packing_model.specs.Nodes.{stage_at}
use Rattle.packing_model.proofs.NodeLemmas.{few_terms}
use Rattle.node_bound.proofs.closing.is_short.Goals as goal

pub left_of-requires : goal.left_of-requires
left_of-requires g c =
    let at = c.args.at.now in
    let w : Weights = counted (g.O.Objective.weight at.objective.now) (g.O.Objective.floor at.objective.now) in
    let s = stage_at at.level at.targets.now at.best at.pool.now in
    let node = c.requires.node in
    let few : at.level ≤ 7 = omega (arith, node.high, node.few_levels) in
    record {
      count = node.counted;
      pool = c.requires.pool;
      fixing = node.fixing;
      high = node.high;
      targets = node.targets_are;
      small_scale = c.requires.fine.small_scale;
      rising = c.requires.fine.rising;
      small = c.requires.fine.small;
      there = c.requires.there;
      times = subst (λ ts. AreLevelTimes ts c.level_times-times.result) c.as_slice.ensures c.level_times-times.ensures;
      few_taken = node.few;
      few_terms = few_terms (packing at.model.now) w s c.args.leaf.now.terms c.base_len.ensures.few c.len.ensures.few few c.requires.fine.rising c.requires.there;
    }
