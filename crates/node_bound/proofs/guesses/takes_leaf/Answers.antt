use Rattle.std.proofs.Common.{rules, ◌≡◌, ◌∙◌, sym, ap, true}
use Rattle.std.specs.Prelude.{is_ok}
use Rattle.duality.specs.Packing.{Weights}
use Rattle.packing_model.specs.Built.{packing}
use Rattle.packing_model.specs.Closing.{counted}
use Rattle.packing_model.specs.Nodes.{fixed_of, stage_at}
use Rattle.node_bound.specs.Guessed.{is_fine_leaf}
use Rattle.node_bound.proofs.GuessedLaws.{leaf_ends}
use Rattle.node_bound.proofs.guesses.takes_leaf.Goals as goal

pub returns : goal.returns
returns g c = λ h.
    let at = c.args.at.now in
    let w : Weights = counted (g.O.Objective.weight at.objective.now) (g.O.Objective.floor at.objective.now) in
    let fine : is_fine_leaf c.args.leaf.now ≡ true = search rules in
    leaf_ends (packing at.model.now) w (stage_at at.level at.targets.now at.best at.pool.now) (fixed_of at.fixing.now) c.args.leaf.now fine (ap is_ok (sym c.close_leaf.ensures.verdict) ∙ sym c.is_ok.ensures.value ∙ h)
