use Rattle.std.proofs.Common.{ap, subst, length, ◌∙◌, ◌≤◌}
use Rattle.worked_search.proofs.CountLaws.{only_level}
use Rattle.worked_search.proofs.floors.grown.Goals as goal

pub grow_tree-requires-clause-level : goal.grow_tree-requires-clause-level
grow_tree-requires-clause-level g c =
    only_level c.args.model.now c.new-objective.result.count _
    (c.new-objective.ensures ∙ c.len.ensures.count ∙ ap length c.patterns.ensures.patterns)
    (subst (λ s. length s ≤ 200000) c.patterns.ensures.patterns c.patterns.ensures.few)
