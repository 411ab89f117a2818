use Rattle.std.proofs.Common.{sym, ap₂, ◌∙◌, subst, ◌^◌}
use Rattle.std.specs.Prelude.{pos, ◌-ℤ◌, int_le}
use Rattle.duality.specs.Sums.{IsWithin}
use Rattle.clique_cuts.proofs.BetterLaws.{reaches, plain, plain_value, le_is}
use Rattle.clique_cuts.proofs.rounding.reaches_floor.Goals as goal

pub returns : goal.returns
returns g c = λ holds.
    let floor = g.O.Objective.floor c.args.at.now.objective.now in
    let weight = c.weigh-weight.result in
    let number = c.floor_number.result in
    let same = ap₂ (λ a b. int_le a (pos 0 -ℤ b)) (plain weight c.weigh-weight.ensures.small) (plain_value number (subst (IsWithin (10 ^ 12)) (sym c.floor_number.ensures) (g.met.O.Objective.small_number c.args.at.now.objective.now)) ∙ c.floor_number.ensures) in
    reaches floor c.args.list.now weight c.weigh-weight.ensures.value (le_is weight _ (sym same ∙ sym c.is_within.ensures ∙ holds))
