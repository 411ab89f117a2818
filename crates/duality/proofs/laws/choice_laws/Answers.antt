use Rattle.duality.proofs.ChoiceLaws.{sum_by_holder, few_chosen}
use Rattle.duality.proofs.laws.choice_laws.Goals as goal

pub returns : goal.returns
returns c = record { measured = sum_by_holder; few = few_chosen }
