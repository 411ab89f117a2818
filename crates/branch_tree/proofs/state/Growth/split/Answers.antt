use Rattle.std.proofs.Common.{arith, refl, ◌-◌}
use Rattle.duality.specs.Packing.{Weights}
use Rattle.duality.specs.Walk.{fixing_of}
use Rattle.packing_model.specs.Built.{packing}
use Rattle.packing_model.specs.Closing.{counted}
use Rattle.search_nodes.specs.Paths.{path_of}
use Rattle.branch_tree.proofs.StepLaws.{branch_step, spent_step, branch_free, few_nodes}
use Rattle.branch_tree.proofs.LogLaws.{spent_logged, split_logged}
use Rattle.branch_tree.proofs.KeptLaws.{keeps_unit}
use Rattle.branch_tree.specs.declared.log.Unit.{Unit as BranchUnit}
use Rattle.branch_tree.proofs.state.Growth.split.Goals as goal

pub returns-then-budget-eq0-clause-step : goal.returns-then-budget-eq0-clause-step
returns-then-budget-eq0-clause-step g c =
    let at = c.args.at.now in
    let w : Weights = counted (g.O.Objective.weight at.objective.now) (g.O.Objective.floor at.objective.now) in
    spent_step at.model.now w at.level at.targets.now c.args.self.now c.args.self.now c.args.pool.now c.args.budget.now.left c.requires.kept
    (branch_free (packing at.model.now) (fixing_of (path_of c.args.self.now.walk.path)) c.args.pattern c.requires.free) (omega arith) refl

pub overflow_cast-len : goal.overflow_cast-len
overflow_cast-len g c =
    let at = c.args.at.now in
    let w : Weights = counted (g.O.Objective.weight at.objective.now) (g.O.Objective.floor at.objective.now) in
    omega (arith, few_nodes at.model.now w at.level at.targets.now c.args.self.now c.args.pool.now c.args.budget.now.left c.requires.kept c.requires.few)

pub returns-clause-step : goal.returns-clause-step
returns-clause-step g c =
    let at = c.args.at.now in
    let w : Weights = counted (g.O.Objective.weight at.objective.now) (g.O.Objective.floor at.objective.now) in
    let made = c.in_ok-branch.ensures in
    branch_step at.model.now w at.level at.targets.now c.args.self.now c.branch-self.new.self c.args.pool.now c.args.budget.now.left (c.args.budget.now.left - 1) c.args.pattern
    c.requires.kept c.requires.free (omega arith) made.nodes made.held made.path (made.walk (packing at.model.now) c.requires.kept.walk c.requires.free)

pub returns-then-budget-eq0-clause-logged : goal.returns-then-budget-eq0-clause-logged
returns-then-budget-eq0-clause-logged g c = λ wides wides' steps steps' lw ls took.
    let at = c.args.at.now in
    let k = packing at.model.now in
    let w : Weights = counted (g.O.Objective.weight at.objective.now) (g.O.Objective.floor at.objective.now) in
    let self = c.args.self.now in
    spent_logged k w at.level at.targets.now self self c.args.pool.now c.args.log.now wides wides' steps steps' c.args.pattern c.args.cause c.requires.caused refl lw ls took

pub returns-clause-logged : goal.returns-clause-logged
returns-clause-logged g c = λ wides wides' steps steps' lw ls took.
    let at = c.args.at.now in
    let k = packing at.model.now in
    let w : Weights = counted (g.O.Objective.weight at.objective.now) (g.O.Objective.floor at.objective.now) in
    let self = c.args.self.now in
    let made = c.in_ok-branch.ensures in
    let u : BranchUnit = record { level = at.level; node = c.len.result; pattern = c.args.pattern; cuts = c.len-2.result; value = c.value.result; cause = c.args.cause } in
    split_logged k w at.level at.targets.now self c.branch-self.new.self c.args.pool.now c.args.log.now _ wides wides' steps steps' u c.requires.kept.grown.behind c.requires.free c.requires.caused
    refl c.len.ensures c.len-2.ensures.count c.value.ensures made.nodes made.held c.in_ok-push.ensures.ok refl lw ls took

pub returns-clause-keeps : goal.returns-clause-keeps
returns-clause-keeps g c =
    let at = c.args.at.now in
    keeps_unit (packing at.model.now) c.args.pool.now c.args.budget.now.left (c.args.budget.now.left - 1) c.args.log.now _ _ c.requires.kept.grown.pool_is c.in_ok-push.ensures.ok refl (omega arith)
