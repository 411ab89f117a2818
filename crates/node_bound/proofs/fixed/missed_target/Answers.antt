use Rattle.std.proofs.Common.{sym, ap, ap₂, ◌∙◌, ◌-◌, arith}
use Rattle.std.specs.Prelude.{int_lt}
use Rattle.std.specs.Ordering.{int_eq}
use Rattle.numbers.specs.Sums.{total}
use Rattle.duality.specs.Packing.{Weights, target_of}
use Rattle.packing_model.specs.Built.{packing}
use Rattle.packing_model.specs.Closing.{counted}
use Rattle.packing_model.specs.Nodes.{fixed_of, stage_at}
use Rattle.node_bound.proofs.FixedLaws.{target_miss, target_hit, plain, plain_value, decided, less_is, equal_is}
use Rattle.node_bound.proofs.fixed.missed_target.Goals as goal

pub returns-then-is_equal : goal.returns-then-is_equal
returns-then-is_equal g c =
    let at = c.args.at.now in
    let f = g.O.Objective.weight at.objective.now c.args.level in
    let target = target_of at.targets.now c.args.level in
    let weight = c.weigh-weight.result in
    let is = c.weigh-weight.ensures.value ∙ ap (total f) c.as_slice.ensures in
    let w = plain weight c.weigh-weight.ensures.small in
    let t = plain_value target (c.requires.node.targets_are.small (c.args.level - 1) (omega (arith, c.requires.node.targets_are.count))) in
    sym is ∙ equal_is weight target (sym (ap₂ int_eq w t) ∙ sym c.if-is_equal.ensures)

pub returns-then-is_less : goal.returns-then-is_less
returns-then-is_less g c =
    let at = c.args.at.now in
    let f = g.O.Objective.weight at.objective.now c.args.level in
    let wt : Weights = counted (g.O.Objective.weight at.objective.now) (g.O.Objective.floor at.objective.now) in
    let target = target_of at.targets.now c.args.level in
    let weight = c.weigh-weight.result in
    let is = c.weigh-weight.ensures.value ∙ ap (total f) c.as_slice.ensures in
    let w = plain weight c.weigh-weight.ensures.small ∙ is in
    let t = plain_value target (c.requires.node.targets_are.small (c.args.level - 1) (omega (arith, c.requires.node.targets_are.count))) in
    target_hit (packing at.model.now) wt (stage_at at.level at.targets.now at.best at.pool.now) (fixed_of at.fixing.now) c.args.level c.requires.low c.requires.below (omega (arith, c.requires.node.high, c.requires.node.few_levels))
    (less_is target _ (sym (ap₂ int_lt t w) ∙ sym c.if-is_less.ensures))

pub returns : goal.returns
returns g c =
    let at = c.args.at.now in
    let f = g.O.Objective.weight at.objective.now c.args.level in
    let wt : Weights = counted (g.O.Objective.weight at.objective.now) (g.O.Objective.floor at.objective.now) in
    let target = target_of at.targets.now c.args.level in
    let weight = c.weigh-weight.result in
    let is = c.weigh-weight.ensures.value ∙ ap (total f) c.as_slice.ensures in
    let w = plain weight c.weigh-weight.ensures.small ∙ is in
    let t = plain_value target (c.requires.node.targets_are.small (c.args.level - 1) (omega (arith, c.requires.node.targets_are.count))) in
    target_miss (packing at.model.now) wt (stage_at at.level at.targets.now at.best at.pool.now) (fixed_of at.fixing.now) c.args.level c.requires.low c.requires.below (omega (arith, c.requires.node.high, c.requires.node.few_levels))
    (decided _ target (sym (ap₂ int_eq w t) ∙ sym c.if-is_equal.ensures) (sym (ap₂ int_lt t w) ∙ sym c.if-is_less.ensures))
