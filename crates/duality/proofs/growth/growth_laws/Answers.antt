use Rattle.duality.proofs.AfterLaws.{after_append, right_append, all_right_rise, right_proves, right_sizes, proves_rise}
use Rattle.duality.proofs.UnitLaws.{units_most, tree_most}
use Rattle.duality.proofs.growth.growth_laws.Goals as goal

pub returns : goal.returns
returns c = record { rises = all_right_rise; proves_still = proves_rise; more = right_append; left = after_append; proves = right_proves; sizes = right_sizes; units = units_most; most = tree_most }
