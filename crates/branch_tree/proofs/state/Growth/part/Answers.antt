use Rattle.std.proofs.Common.{sym, subst, refl, length}
use Rattle.duality.specs.Packing.{Weights}
use Rattle.packing_model.specs.Built.{packing}
use Rattle.packing_model.specs.Closing.{counted}
use Rattle.branch_tree.specs.Growths.{IsStep}
use Rattle.branch_tree.specs.Logging.{Logs}
use Rattle.branch_tree.specs.Pools.{FindsCut}
use Rattle.branch_tree.proofs.StepLaws.{cut_step, few_nodes}
use Rattle.branch_tree.proofs.LogLaws.{cut_logged}
use Rattle.branch_tree.proofs.KeptLaws.{keeps_cut, noted_ok}
use Rattle.branch_tree.proofs.state.Growth.part.Goals as goal

pub found_cut-requires : goal.found_cut-requires
found_cut-requires g c = c.requires.gap.point

pub keep-requires-clause-few : goal.keep-requires-clause-few
keep-requires-clause-few g c =
    let at = c.args.at.now in
    let w : Weights = counted (g.O.Objective.weight at.objective.now) (g.O.Objective.floor at.objective.now) in
    few_nodes at.model.now w at.level at.targets.now c.args.self.now c.args.pool.now c.args.budget.now.left c.requires.kept c.requires.few

pub returns-in-Some-clause-step : goal.returns-in-Some-clause-step
returns-in-Some-clause-step g c =
    let at = c.args.at.now in
    let w : Weights = counted (g.O.Objective.weight at.objective.now) (g.O.Objective.floor at.objective.now) in
    let self = c.args.self.now in
    let budget = c.args.budget.now.left in
    let found = subst (FindsCut (packing at.model.now) (length c.args.pool.now) c.args.point) c.in-Some.is c.in_ok-cut.ensures in
    noted_ok _ c.in-Some.cut c.args.pool.now c.keep.new.pool c.args.log.now c.keep.new.log c.keep.result _ (λ step h.
    subst (IsStep at.model.now w at.level at.targets.now self self c.args.pool.now c.keep.new.pool budget budget) (sym h.0)
    (cut_step at.model.now w at.level at.targets.now self self c.args.pool.now c.keep.new.pool budget c.in-Some.cut c.requires.kept found.1.cut found.0 h.1 refl)) c.keep.ensures

pub returns-in-Some-clause-logged : goal.returns-in-Some-clause-logged
returns-in-Some-clause-logged g c =
    let at = c.args.at.now in
    let k = packing at.model.now in
    let w : Weights = counted (g.O.Objective.weight at.objective.now) (g.O.Objective.floor at.objective.now) in
    let self = c.args.self.now in
    let found = subst (FindsCut k (length c.args.pool.now) c.args.point) c.in-Some.is c.in_ok-cut.ensures in
    noted_ok _ c.in-Some.cut c.args.pool.now c.keep.new.pool c.args.log.now c.keep.new.log c.keep.result _ (λ step h wides wides' steps steps' lw ls.
    subst (Logs k w at.level at.targets.now self self c.args.pool.now c.keep.new.pool c.args.log.now c.keep.new.log wides wides' steps steps') (sym h.0)
    (cut_logged k w at.level at.targets.now self self c.args.pool.now c.keep.new.pool c.args.log.now c.keep.new.log wides wides' steps steps' c.args.point c.in-Some.cut
    c.requires.kept.grown.behind c.requires.gap found.1.broken refl h.1 h.2 h.3 lw ls)) c.keep.ensures

pub returns-in-Some-clause-keeps : goal.returns-in-Some-clause-keeps
returns-in-Some-clause-keeps g c =
    let at = c.args.at.now in
    let k = packing at.model.now in
    let found = subst (FindsCut k (length c.args.pool.now) c.args.point) c.in-Some.is c.in_ok-cut.ensures in
    keeps_cut k _ c.in-Some.cut c.args.pool.now c.keep.new.pool c.args.budget.now.left c.args.log.now c.keep.new.log c.keep.result c.requires.kept.grown.pool_is found.1.cut c.keep.ensures
