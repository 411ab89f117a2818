use Rattle.std.proofs.Common.{sym, subst}
use Rattle.std.proofs.lemmas.Result.{IfOk-weaker}
use Rattle.duality.specs.Packing.{Weights}
use Rattle.meeting_patterns.specs.Pattern.{patterns_of}
use Rattle.packing_model.specs.Built.{packing}
use Rattle.packing_model.specs.Closing.{counted}
use Rattle.packing_model.specs.Nodes.{fixed_of, stage_at}
use Rattle.node_bound.specs.Bounds.{Decides}
use Rattle.node_bound.proofs.FixedLaws.{miss_closes, fine_term, few_taken}
use Rattle.node_bound.proofs.fixed.close_fixed_at.Goals as goal

pub returns-in-Some : goal.returns-in-Some
returns-in-Some g c =
    let at = c.args.at.now in
    let w : Weights = counted (g.O.Objective.weight at.objective.now) (g.O.Objective.floor at.objective.now) in
    let s = stage_at at.level at.targets.now at.best at.pool.now in
    let miss = c.in-Some.ensures in
    IfOk-weaker c.one_term.result _ _ (λ r e.
    subst (Decides at.model.now w s (fixed_of at.fixing.now)) (sym e)
    (miss_closes (packing at.model.now) w s (fixed_of at.fixing.now) c.in-Some.term c.requires.none miss, fine_term c.in-Some.term miss.one)) c.one_term.ensures

pub missed-requires : goal.missed-requires
missed-requires g c = record {
  node = record {
    counted = c.requires.count;
    few_levels = g.met.O.Objective.few_levels c.args.at.now.objective.now;
    high = c.requires.high;
    targets_are = c.requires.targets;
    fixing = c.requires.fixing;
    few = few_taken c.args.at.now.model.now c.args.at.now.fixing.now c.laws.ensures.problem.few_events (λ list free. c.pattern_laws.ensures.few c.args.at.now.model.now (patterns_of c.args.at.now.model.now) list (c.pattern_laws.ensures.listed c.args.at.now.model.now) free) c.requires.fixing;
  };
}

pub at_value-requires-clause-node : goal.at_value-requires-clause-node
at_value-requires-clause-node g c = record {
  counted = c.requires.count;
  few_levels = g.met.O.Objective.few_levels c.args.at.now.objective.now;
  high = c.requires.high;
  targets_are = c.requires.targets;
  fixing = c.requires.fixing;
  few = few_taken c.args.at.now.model.now c.args.at.now.fixing.now c.laws.ensures.problem.few_events (λ list free. c.pattern_laws.ensures.few c.args.at.now.model.now (patterns_of c.args.at.now.model.now) list (c.pattern_laws.ensures.listed c.args.at.now.model.now) free) c.requires.fixing;
}
