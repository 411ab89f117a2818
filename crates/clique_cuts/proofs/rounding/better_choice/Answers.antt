use Rattle.std.proofs.Common.{rules, subst, ap, ◌∙◌, ◌≤◌, length, List, arith}
use Rattle.problem_core.specs.Facts.{Facts}
use Rattle.problem_core.specs.Choice.{IsLegal}
use Rattle.meeting_patterns.specs.Made.{AreClashless}
use Rattle.meeting_patterns.specs.Pattern.{patterns_of}
use Rattle.meeting_patterns.specs.declared.pattern.Pattern.{Pattern}
use Rattle.duality.specs.Packing.{Weights}
use Rattle.packing_model.specs.Closing.{counted}
use Rattle.search_nodes.proofs.ChoiceLaws.{chosen_are, chosen_known}
use Rattle.clique_cuts.proofs.BetterLaws.{chosen_better}
use Rattle.clique_cuts.proofs.rounding.better_choice.Goals as goal

pub is_better-requires-clause-list : goal.is_better-requires-clause-list
is_better-requires-clause-list g c =
    let p = c.args.at.now.model.now in
    let list = c.in_ok-list.list.items in
    let a = c.args.choice.entries in
    let is = chosen_are p c.problem-2.result.now c.patterns.result.now a list c.problem-2.ensures c.patterns.ensures.patterns c.in_ok-list.ensures.chosen in
    let free : AreClashless p (patterns_of p) list = subst (λ (s : List Pattern). AreClashless p s list) c.patterns.ensures.patterns (subst (λ (f : Facts). AreClashless f c.patterns.result.now list) c.problem-2.ensures c.in_ok-list.ensures.clashless) in
    let few : length list ≤ 4000 = omega (arith, c.pattern_laws.ensures.few p (patterns_of p) list (c.pattern_laws.ensures.listed p) free, c.laws.ensures.problem.few_events) in
    record {
      few = omega (arith, few, ap length c.deref.ensures.value);
      known = chosen_known p a c.deref.result.now (g.O.Objective.count c.args.at.now.objective.now) (c.deref.ensures.value ∙ is) c.requires.count;
    }

pub returns-then-is_better : goal.returns-then-is_better
returns-then-is_better g c =
    let at = c.args.at.now in
    let p = at.model.now in
    let w : Weights = counted (g.O.Objective.weight at.objective.now) (g.O.Objective.floor at.objective.now) in
    let list = c.in_ok-list.list.items in
    let a = c.args.choice.entries in
    let is = chosen_are p c.problem-2.result.now c.patterns.result.now a list c.problem-2.ensures c.patterns.ensures.patterns c.in_ok-list.ensures.chosen in
    let legal : IsLegal p a = search rules in
    chosen_better p w at.level at.targets.now at.best a c.deref.result.now legal (c.deref.ensures.value ∙ is) (c.is_better.ensures c.if-is_better.true)
