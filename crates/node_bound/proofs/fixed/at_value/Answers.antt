use Rattle.std.proofs.Common.{sym, ap, ◌∙◌, subst, ◌≡◌, true, ℕ, ◌<◌, List, length}
use Rattle.std.specs.Prelude.{pos}
use Rattle.numbers.specs.Sums.{total, member}
use Rattle.problem_core.specs.Choice.{IsLegal}
use Rattle.problem_core.specs.Facts.{Facts}
use Rattle.meeting_patterns.specs.Pattern.{patterns_of, pattern_at, chooses}
use Rattle.meeting_patterns.specs.declared.pattern.Pattern.{Pattern}
use Rattle.duality.specs.declared.row.Term.{Term}
use Rattle.duality.specs.Packing.{Weights}
use Rattle.duality.specs.Tree.{ends_at}
use Rattle.packing_model.specs.Built.{packing}
use Rattle.packing_model.specs.Closing.{counted}
use Rattle.packing_model.specs.Nodes.{fixed_of, stage_at}
use Rattle.packing_model.proofs.NodeLemmas.{distinct_from}
use Rattle.search_nodes.specs.Leaves.{IsFineLeaf}
use Rattle.node_bound.specs.Fixed.{is_at_most}
use Rattle.node_bound.proofs.FixedLaws.{plain_closes, fine_plain, made_held, made_more, plain}
use Rattle.node_bound.proofs.fixed.at_value.Goals as goal

pub returns-then-is_at_most : goal.returns-then-is_at_most
returns-then-is_at_most g c =
    let at = c.args.at.now in
    let w : Weights = counted (g.O.Objective.weight at.objective.now) (g.O.Objective.floor at.objective.now) in
    let weight = c.weigh-value.result in
    let is = c.weigh-value.ensures.value ∙ ap (total (g.O.Objective.weight at.objective.now at.level)) c.as_slice-one.ensures in
    let most = sym (ap (λ x. is_at_most x at.best) (plain weight c.weigh-value.ensures.small)) ∙ sym c.if-is_at_most.ensures in (
      subst (λ (ts : List Term). ends_at (packing at.model.now) w (stage_at at.level at.targets.now at.best at.pool.now) (fixed_of at.fixing.now) (record { scale = pos 1; terms = ts }) ≡ true) (sym c.new.ensures)
          (plain_closes (packing at.model.now) w (stage_at at.level at.targets.now at.best at.pool.now) (fixed_of at.fixing.now) weight c.requires.none is most),
      subst (λ (ts : List Term). IsFineLeaf (record { scale = pos 1; terms = ts })) (sym c.new.ensures) fine_plain,
    )

pub returns : goal.returns
returns g c =
    let at = c.args.at.now in
    let w : Weights = counted (g.O.Objective.weight at.objective.now) (g.O.Objective.floor at.objective.now) in
    let s = stage_at at.level at.targets.now at.best at.pool.now in
    let one = at.fixing.now.one in
    let a = c.in_ok-choice.choice.entries in
    let weight = c.weigh-value.result in
    let is = c.weigh-value.ensures.value ∙ ap (total (g.O.Objective.weight at.objective.now at.level)) c.as_slice-one.ensures in
    let less = sym (ap (λ x. is_at_most x at.best) (plain weight c.weigh-value.ensures.small)) ∙ sym c.if-is_at_most.ensures in
    let legal : IsLegal at.model.now a = subst (λ (p : Facts). IsLegal p a) c.problem.ensures c.in_ok-choice.ensures.legal in
    let back : (i : ℕ) → i < length (patterns_of at.model.now) → chooses at.model.now a (pattern_at (patterns_of at.model.now) i) ≡ member i one =
    subst (λ (ps : List ℕ). (i : ℕ) → i < length (patterns_of at.model.now) → chooses at.model.now a (pattern_at (patterns_of at.model.now) i) ≡ member i ps) c.as_slice-one.ensures
    (subst (λ (x : List Pattern). (i : ℕ) → i < length x → chooses at.model.now a (pattern_at x i) ≡ member i c.as_slice-one.result.now) c.patterns.ensures.patterns
    (subst (λ (p : Facts). (i : ℕ) → i < length c.patterns.result.now → chooses p a (pattern_at c.patterns.result.now i) ≡ member i c.as_slice-one.result.now) c.problem.ensures c.in_ok-choice.ensures.back)) in
    let differ = distinct_from one c.requires.node.fixing.differ in
    let known = c.requires.node.fixing.of_packing.one in (
      made_held at.model.now w s one a differ known back legal c.requires.meets,
      made_more at.model.now w at.level at.best one a weight differ known back is less,
    )
