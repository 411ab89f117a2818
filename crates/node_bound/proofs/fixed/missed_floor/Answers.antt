use Rattle.std.proofs.Common.{sym, ap, ap₂, ◌∙◌, subst, ◌^◌}
use Rattle.std.specs.Prelude.{pos, ◌-ℤ◌, int_le}
use Rattle.numbers.specs.Sums.{total}
use Rattle.duality.specs.Packing.{Weights, floor_weight}
use Rattle.duality.specs.Sums.{IsWithin}
use Rattle.packing_model.specs.Built.{packing}
use Rattle.packing_model.specs.Closing.{counted}
use Rattle.packing_model.specs.Nodes.{fixed_of, stage_at}
use Rattle.node_bound.proofs.FixedLaws.{reaches, floor_miss, plain, plain_value, le_is, le_not}
use Rattle.node_bound.proofs.fixed.missed_floor.Goals as goal

pub returns-then-is_within : goal.returns-then-is_within
returns-then-is_within g c =
    let floor = g.O.Objective.floor c.args.at.now.objective.now in
    let weight = c.weigh-weight.result in
    let number = c.floor_number.result in
    let is = c.weigh-weight.ensures.value ∙ ap (total (λ p. pos 0 -ℤ floor_weight floor p)) c.as_slice.ensures in
    let same = ap₂ (λ a b. int_le a (pos 0 -ℤ b)) (plain weight c.weigh-weight.ensures.small) (plain_value number (subst (IsWithin (10 ^ 12)) (sym c.floor_number.ensures) (g.met.O.Objective.small_number c.args.at.now.objective.now)) ∙ c.floor_number.ensures) in
    reaches floor c.args.at.now.fixing.now.one weight is (le_is weight _ (sym same ∙ sym c.if-is_within.ensures))

pub returns : goal.returns
returns g c =
    let at = c.args.at.now in
    let floor = g.O.Objective.floor at.objective.now in
    let w : Weights = counted (g.O.Objective.weight at.objective.now) floor in
    let weight = c.weigh-weight.result in
    let number = c.floor_number.result in
    let is = c.weigh-weight.ensures.value ∙ ap (total (λ p. pos 0 -ℤ floor_weight floor p)) c.as_slice.ensures in
    let same = ap₂ (λ a b. int_le a (pos 0 -ℤ b)) (plain weight c.weigh-weight.ensures.small) (plain_value number (subst (IsWithin (10 ^ 12)) (sym c.floor_number.ensures) (g.met.O.Objective.small_number at.objective.now)) ∙ c.floor_number.ensures) in
    floor_miss (packing at.model.now) w (stage_at at.level at.targets.now at.best at.pool.now) (fixed_of at.fixing.now) weight (sym c.has_floor.ensures ∙ c.if-not-has_floor.false) is (le_not weight _ (sym same ∙ sym c.if-is_within.ensures))
