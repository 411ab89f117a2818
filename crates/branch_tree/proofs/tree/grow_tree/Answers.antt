use Rattle.std.proofs.Common.{[], sym, ap, subst, refl, length}
use Rattle.std.proofs.lemmas.Result.{IfOk-weaker}
use Rattle.duality.specs.Packing.{Weights}
use Rattle.packing_model.specs.Built.{packing}
use Rattle.packing_model.specs.Closing.{counted}
use Rattle.branch_tree.specs.Growths.{value_of, IsStep, IsHeldAt, Goes}
use Rattle.branch_tree.proofs.EndLaws.{whole_tree, goes_through, goes_none, no_nodes, grows_open}
use Rattle.branch_tree.specs.Logs.{Beginning, moment}
use Rattle.branch_tree.specs.Logging.{Logs}
use Rattle.branch_tree.proofs.KeptLaws.{keeps_so_far, keeps_through}
use Rattle.branch_tree.proofs.LogLaws.{logged_begins, no_more, logged_open}
use Rattle.branch_tree.proofs.tree.grow_tree.Goals as goal

pub nodes-init : goal.nodes-init
nodes-init g c =
    let at = c.args.at.now in
    let w : Weights = counted (g.O.Objective.weight at.objective.now) (g.O.Objective.floor at.objective.now) in
    let e = c.new-growth.ensures in
    record {
      kept = no_nodes at.model.now w at.level at.targets.now c.args.pool.now c.new-growth.result e.nodes e.path (e.walk (packing at.model.now)) (subst (IsHeldAt at.model.now w at.level at.targets.now) (sym e.held) c.requires.held) c.requires.pool;
      logged = λ b l. no_more (packing at.model.now) w at.level at.targets.now b c.new-growth.result.nodes c.args.pool.now (value_of c.args.held) (value_of c.new-growth.result.held) c.args.log.now.units c.args.log.now.cuts (moment (g.A.Arith.wides c.args.arith.now) c.args.steps.now (length c.args.pool.now)) e.nodes (ap value_of e.held) l;
      goes = subst (λ h. Goes c.args.held h [] c.new-growth.result.nodes c.args.pool.now c.args.pool.now c.args.budget.now.left c.args.budget.now.left) (sym e.held) (goes_none c.args.held c.new-growth.result.nodes c.args.pool.now c.args.budget.now.left e.nodes);
    }

pub returns-in-Proved-clause-grows : goal.returns-in-Proved-clause-grows
returns-in-Proved-clause-grows g c =
    let at = c.args.at.now in
    let w : Weights = counted (g.O.Objective.weight at.objective.now) (g.O.Objective.floor at.objective.now) in
    let old = c.nodes in
    let new = c.step.new in
    let s = subst (IsStep at.model.now w at.level at.targets.now old.growth new.self old.pool new.pool old.budget.left new.budget.left) c.in-Proved.is c.in_ok-step.ensures.step in
    record {
      ends = whole_tree at.model.now w at.level at.targets.now new.pool new.self.nodes new.self.held s.comes;
      fine = s.comes.fine;
      held_is = s.comes.held_is;
      pool_is = s.comes.pool_is;
      goes = goes_through c.args.held old.growth.held new.self.held [] old.growth.nodes new.self.nodes c.args.pool.now old.pool new.pool c.args.budget.now.left old.budget.left new.budget.left old.invariant.goes s.goes;
    }

pub returns-in-Spent-clause-grows : goal.returns-in-Spent-clause-grows
returns-in-Spent-clause-grows g c =
    let at = c.args.at.now in
    let w : Weights = counted (g.O.Objective.weight at.objective.now) (g.O.Objective.floor at.objective.now) in
    let old = c.nodes in
    let new = c.step.new in
    let s = subst (IsStep at.model.now w at.level at.targets.now old.growth new.self old.pool new.pool old.budget.left new.budget.left) c.in-Spent.is c.in_ok-step.ensures.step in
    let goes = goes_through c.args.held old.growth.held new.self.held [] old.growth.nodes new.self.nodes c.args.pool.now old.pool new.pool c.args.budget.now.left old.budget.left new.budget.left old.invariant.goes s.goes in
    IfOk-weaker c.left_open.result _ _ (λ grown h.
    grows_open at.model.now w at.level at.targets.now c.args.held c.args.pool.now new.pool c.args.budget.now.left new.budget.left new.self grown s.comes.0 s.comes.1 s.comes.2 goes h.0 h.1 h.2) c.left_open.ensures

pub returns-in-Proved-clause-logged : goal.returns-in-Proved-clause-logged
returns-in-Proved-clause-logged g c =
    let at = c.args.at.now in
    let k = packing at.model.now in
    let w : Weights = counted (g.O.Objective.weight at.objective.now) (g.O.Objective.floor at.objective.now) in
    let old = c.nodes in
    let new = c.step.new in
    let s = subst (Logs k w at.level at.targets.now old.growth new.self old.pool new.pool old.log new.log (g.A.Arith.wides old.arith) (g.A.Arith.wides new.arith) old.steps new.steps) c.in-Proved.is c.in_ok-step.ensures.logged in
    record { on = λ b l. s.on b (old.invariant.logged b l) }

pub returns-in-Spent-clause-logged : goal.returns-in-Spent-clause-logged
returns-in-Spent-clause-logged g c =
    let at = c.args.at.now in
    let k = packing at.model.now in
    let w : Weights = counted (g.O.Objective.weight at.objective.now) (g.O.Objective.floor at.objective.now) in
    let old = c.nodes in
    let new = c.step.new in
    let s = subst (Logs k w at.level at.targets.now old.growth new.self old.pool new.pool old.log new.log (g.A.Arith.wides old.arith) (g.A.Arith.wides new.arith) old.steps new.steps) c.in-Spent.is c.in_ok-step.ensures.logged in
    let t = subst (IsStep at.model.now w at.level at.targets.now old.growth new.self old.pool new.pool old.budget.left new.budget.left) c.in-Spent.is c.in_ok-step.ensures.step in
    IfOk-weaker c.left_open.result _ _ (λ grown h. record {
      on = λ b l.
          logged_open k w at.level at.targets.now b new.self grown new.pool new.log (g.A.Arith.wides new.arith) new.steps (s.on b (old.invariant.logged b l)) t.comes.0.grown.behind t.comes.0.grown.closed t.comes.2 h.0 h.1 h.2;
    }) c.left_open.ensures

pub nodes-preserved : goal.nodes-preserved
nodes-preserved g c =
    let at = c.args.at.now in
    let k = packing at.model.now in
    let w : Weights = counted (g.O.Objective.weight at.objective.now) (g.O.Objective.floor at.objective.now) in
    let old = c.nodes in
    let new = c.step.new in
    let s = subst (Logs k w at.level at.targets.now old.growth new.self old.pool new.pool old.log new.log (g.A.Arith.wides old.arith) (g.A.Arith.wides new.arith) old.steps new.steps) c.in-On.is c.in_ok-step.ensures.logged in
    let t = subst (IsStep at.model.now w at.level at.targets.now old.growth new.self old.pool new.pool old.budget.left new.budget.left) c.in-On.is c.in_ok-step.ensures.step in
    record {
      kept = t.comes.0;
      logged = λ b l. s.on b (old.invariant.logged b l);
      goes = goes_through c.args.held old.growth.held new.self.held [] old.growth.nodes new.self.nodes c.args.pool.now old.pool new.pool c.args.budget.now.left old.budget.left new.budget.left old.invariant.goes t.goes;
    }

pub returns-in_err-step-clause-keeps : goal.returns-in_err-step-clause-keeps
returns-in_err-step-clause-keeps g c =
    let at = c.args.at.now in
    let k = packing at.model.now in
    let w : Weights = counted (g.O.Objective.weight at.objective.now) (g.O.Objective.floor at.objective.now) in
    let old = c.nodes in
    let new = c.step.new in
    let m = moment (g.A.Arith.wides c.args.arith.now) c.args.steps.now (length c.args.pool.now) in
    let n = moment (g.A.Arith.wides old.arith) old.steps (length old.pool) in
    let held = c.args.held in
    let log = c.args.log.now in
    let b : Beginning = record { moment = m; value = value_of held; units = log.units; notes = log.cuts } in
    let begun = logged_begins k w at.level at.targets.now c.args.pool.now (value_of held) log.units log.cuts m refl in
    let so_far = keeps_so_far k w at.level at.targets.now held old.growth.held old.growth.nodes c.args.pool.now old.pool c.args.budget.now.left old.budget.left log old.log m n refl (old.invariant.logged b begun) old.invariant.goes old.invariant.kept.grown.pool_is in
    keeps_through k c.args.pool.now old.pool new.pool c.args.budget.now.left old.budget.left new.budget.left log old.log new.log so_far.0 so_far.1 c.step.ensures.keeps

pub returns-in-Proved-clause-keeps : goal.returns-in-Proved-clause-keeps
returns-in-Proved-clause-keeps g c =
    let at = c.args.at.now in
    let k = packing at.model.now in
    let w : Weights = counted (g.O.Objective.weight at.objective.now) (g.O.Objective.floor at.objective.now) in
    let old = c.nodes in
    let new = c.step.new in
    let m = moment (g.A.Arith.wides c.args.arith.now) c.args.steps.now (length c.args.pool.now) in
    let n = moment (g.A.Arith.wides old.arith) old.steps (length old.pool) in
    let held = c.args.held in
    let log = c.args.log.now in
    let b : Beginning = record { moment = m; value = value_of held; units = log.units; notes = log.cuts } in
    let begun = logged_begins k w at.level at.targets.now c.args.pool.now (value_of held) log.units log.cuts m refl in
    let so_far = keeps_so_far k w at.level at.targets.now held old.growth.held old.growth.nodes c.args.pool.now old.pool c.args.budget.now.left old.budget.left log old.log m n refl (old.invariant.logged b begun) old.invariant.goes old.invariant.kept.grown.pool_is in
    keeps_through k c.args.pool.now old.pool new.pool c.args.budget.now.left old.budget.left new.budget.left log old.log new.log so_far.0 so_far.1 c.step.ensures.keeps

pub returns-in-Spent-clause-keeps : goal.returns-in-Spent-clause-keeps
returns-in-Spent-clause-keeps g c =
    let at = c.args.at.now in
    let k = packing at.model.now in
    let w : Weights = counted (g.O.Objective.weight at.objective.now) (g.O.Objective.floor at.objective.now) in
    let old = c.nodes in
    let new = c.step.new in
    let m = moment (g.A.Arith.wides c.args.arith.now) c.args.steps.now (length c.args.pool.now) in
    let n = moment (g.A.Arith.wides old.arith) old.steps (length old.pool) in
    let held = c.args.held in
    let log = c.args.log.now in
    let b : Beginning = record { moment = m; value = value_of held; units = log.units; notes = log.cuts } in
    let begun = logged_begins k w at.level at.targets.now c.args.pool.now (value_of held) log.units log.cuts m refl in
    let so_far = keeps_so_far k w at.level at.targets.now held old.growth.held old.growth.nodes c.args.pool.now old.pool c.args.budget.now.left old.budget.left log old.log m n refl (old.invariant.logged b begun) old.invariant.goes old.invariant.kept.grown.pool_is in
    keeps_through k c.args.pool.now old.pool new.pool c.args.budget.now.left old.budget.left new.budget.left log old.log new.log so_far.0 so_far.1 c.step.ensures.keeps
