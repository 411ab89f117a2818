use Rattle.std.proofs.Common.{◌∙◌, refl, sym, ap, arith, ◌-◌, ◌^◌, subst}
use Rattle.std.specs.Prelude.{pos, ◌-ℤ◌}
use Rattle.numbers.specs.Sums.{total}
use Rattle.duality.specs.Packing.{Weights, floor_weight, target_of}
use Rattle.duality.specs.Sums.{IsWithin}
use Rattle.packing_model.specs.Built.{packing}
use Rattle.packing_model.specs.Closing.{counted}
use Rattle.packing_model.specs.Nodes.{fixed_of, stage_at}
use Rattle.node_bound.proofs.SideLaws.{floor_left, level_left, floor_side, level_side_is}
use Rattle.node_bound.proofs.taken.left_of_level.Goals as goal

pub returns-then-level-eq-FLOOR_LEVEL : goal.returns-then-level-eq-FLOOR_LEVEL
returns-then-level-eq-FLOOR_LEVEL g c =
    let at = c.args.at.now in
    let floor = g.O.Objective.floor at.objective.now in
    let w : Weights = counted (g.O.Objective.weight at.objective.now) floor in
    let s = stage_at at.level at.targets.now at.best at.pool.now in
    let small = subst (IsWithin (10 ^ 12)) (sym c.floor_number.ensures) (g.met.O.Objective.small_number at.objective.now) in
    floor_left c.floor_number.result c.weigh.result small c.weigh.ensures.small
    ∙ floor_side (packing at.model.now) w s (fixed_of at.fixing.now) c.args.level c.floor_number.result c.weigh.result c.if-level-eq-FLOOR_LEVEL.true c.floor_number.ensures (c.weigh.ensures.value ∙ ap (total (λ p. pos 0 -ℤ floor_weight floor p)) c.as_slice-one.ensures)

pub returns : goal.returns
returns g c =
    let at = c.args.at.now in
    let f = g.O.Objective.weight at.objective.now c.args.level in
    let w : Weights = counted (g.O.Objective.weight at.objective.now) (g.O.Objective.floor at.objective.now) in
    let s = stage_at at.level at.targets.now at.best at.pool.now in
    let target = target_of at.targets.now c.args.level in
    let range = c.requires.level c.if-level-eq-FLOOR_LEVEL.false in
    let small = c.requires.node.targets_are.small (c.args.level - 1) (omega (arith, c.requires.node.targets_are.count, range.0, range.1)) in
    level_left target c.weigh-2.result small c.weigh-2.ensures.small
    ∙ level_side_is (packing at.model.now) w s (fixed_of at.fixing.now) c.args.level target c.weigh-2.result c.if-level-eq-FLOOR_LEVEL.false refl (c.weigh-2.ensures.value ∙ ap (total f) c.as_slice-one.ensures)
