use Rattle.std.proofs.Common.{◌∙◌}
use Rattle.duality.specs.Packing.{Weights}
use Rattle.duality.proofs.PricedLaws.{plain_number}
use Rattle.packing_model.specs.Closing.{counted}
use Rattle.search_nodes.proofs.ChoiceLaws.{chosen_are, chosen_weighs, chosen_known}
use Rattle.search_nodes.proofs.choices.weigh_choice.Goals as goal

pub weigh-requires-clause-known : goal.weigh-requires-clause-known
weigh-requires-clause-known g c =
    let listed = c.deref.ensures.value ∙ chosen_are c.args.model.now c.problem.result.now c.patterns.result.now c.args.choice.now.entries c.in_ok-chosen.chosen.items c.problem.ensures c.patterns.ensures.patterns c.in_ok-chosen.ensures.chosen in
    chosen_known c.args.model.now c.args.choice.now.entries c.deref.result.now (g.O.Objective.count c.args.objective.now) listed c.requires.count

pub returns : goal.returns
returns g c =
    let listed = c.deref.ensures.value ∙ chosen_are c.args.model.now c.problem.result.now c.patterns.result.now c.args.choice.now.entries c.in_ok-chosen.chosen.items c.problem.ensures c.patterns.ensures.patterns c.in_ok-chosen.ensures.chosen in
    let w : Weights = counted (g.O.Objective.weight c.args.objective.now) (g.O.Objective.floor c.args.objective.now) in
    plain_number c.weigh.result c.weigh.ensures.small ∙ c.weigh.ensures.value ∙ chosen_weighs c.args.model.now w c.args.level c.args.choice.now.entries c.deref.result.now listed
