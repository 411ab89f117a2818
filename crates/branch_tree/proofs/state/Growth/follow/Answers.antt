use Rattle.std.proofs.Common.{subst, refl, ap}
use Rattle.std.proofs.lemmas.Result.{IfOk-weaker}
use Rattle.duality.specs.Packing.{Weights, Stage, Fixing}
use Rattle.duality.specs.Walk.{fixing_of}
use Rattle.packing_model.specs.Built.{packing}
use Rattle.packing_model.specs.Closing.{counted}
use Rattle.packing_model.specs.Nodes.{stage_at}
use Rattle.search_nodes.specs.Paths.{path_of}
use Rattle.search_nodes.specs.Choices.{weighs}
use Rattle.branch_tree.specs.Logging.{IsBounded}
use Rattle.branch_tree.specs.Growths.{value_of}
use Rattle.branch_tree.specs.declared.level.Held.{Held}
use Rattle.branch_tree.specs.declared.state.Growth.{Growth}
use Rattle.branch_tree.proofs.StepLaws.{close_step, better_step}
use Rattle.branch_tree.proofs.LogLaws.{closing_logged, better_logged}
use Rattle.branch_tree.proofs.state.Growth.follow.Goals as goal

pub returns-in-Closed-clause-step : goal.returns-in-Closed-clause-step
returns-in-Closed-clause-step g c =
    let at = c.args.at.now in
    let w : Weights = counted (g.O.Objective.weight at.objective.now) (g.O.Objective.floor at.objective.now) in
    let self = c.args.self.now in
    let s : Stage = stage_at at.level at.targets.now (value_of self.held) c.args.pool.now in
    let f : Fixing = fixing_of (path_of self.walk.path) in
    let b = subst (IsBounded at.model.now w s f) c.in-Closed.is c.requires.bounds in
    IfOk-weaker c.close.result _ _ (λ step h.
    close_step at.model.now w at.level at.targets.now self c.close.new.self c.args.pool.now c.args.budget.now.left c.in-Closed.leaf step c.requires.kept b.bounds.0 b.bounds.1
    h.nodes h.held (h.walk (packing at.model.now) c.requires.kept.walk) h.turned) c.close.ensures

pub returns-in_ok-improve-in-Better-clause-step : goal.returns-in_ok-improve-in-Better-clause-step
returns-in_ok-improve-in-Better-clause-step g c =
    let at = c.args.at.now in
    let w : Weights = counted (g.O.Objective.weight at.objective.now) (g.O.Objective.floor at.objective.now) in
    let self = c.args.self.now in
    let s : Stage = stage_at at.level at.targets.now (value_of self.held) c.args.pool.now in
    let f : Fixing = fixing_of (path_of self.walk.path) in
    let b = subst (IsBounded at.model.now w s f) c.in-Better.is c.requires.bounds in
    let choice = c.in-Better.choice in
    let x : Held = record { choice = choice; value = weighs at.model.now w at.level choice.entries } in
    let e = c.in_ok-improve-in-Better.ensures in
    better_step at.model.now w at.level at.targets.now self c.improve.new.self c.args.pool.now c.args.budget.now.left x c.requires.level.small c.requires.kept (b.bounds.0, refl) b.bounds.1
    (ap (λ (g : Growth). g.nodes) e) (ap (λ (g : Growth). g.walk) e) (ap (λ (g : Growth). g.held) e)

pub returns-in-Closed-clause-logged : goal.returns-in-Closed-clause-logged
returns-in-Closed-clause-logged g c =
    let at = c.args.at.now in
    let k = packing at.model.now in
    let w : Weights = counted (g.O.Objective.weight at.objective.now) (g.O.Objective.floor at.objective.now) in
    let self = c.args.self.now in
    IfOk-weaker c.close.result _ _ (λ step h wides wides' steps steps' lw ls bounds.
    closing_logged k w at.level at.targets.now self c.close.new.self c.in-Closed.leaf c.args.pool.now c.args.log.now wides wides' steps steps' step h lw ls) c.close.ensures

pub returns-in_ok-improve-in-Better-clause-logged : goal.returns-in_ok-improve-in-Better-clause-logged
returns-in_ok-improve-in-Better-clause-logged g c = λ wides wides' steps steps' lw ls bounds.
    let at = c.args.at.now in
    let k = packing at.model.now in
    let w : Weights = counted (g.O.Objective.weight at.objective.now) (g.O.Objective.floor at.objective.now) in
    let self = c.args.self.now in
    better_logged k w at.level at.targets.now self c.improve.new.self c.args.pool.now c.args.log.now wides wides' steps steps'
    (ap (λ (x : Growth). x.nodes) c.in_ok-improve-in-Better.ensures) (returns-in_ok-improve-in-Better-clause-step g c).goes.up lw ls
