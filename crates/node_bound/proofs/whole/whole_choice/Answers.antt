use Rattle.std.proofs.Common.{sym, subst, ap, ◌∙◌, ◌≡◌, ◌<◌, ℕ, List, length}
use Rattle.problem_core.specs.Facts.{Facts}
use Rattle.problem_core.specs.Choice.{IsLegal}
use Rattle.meeting_patterns.specs.Made.{AreClashless}
use Rattle.meeting_patterns.specs.Pattern.{patterns_of, pattern_at, chooses}
use Rattle.meeting_patterns.specs.declared.pattern.Pattern.{Pattern}
use Rattle.numbers.specs.Sums.{member}
use Rattle.duality.specs.Packing.{Weights}
use Rattle.packing_model.specs.Closing.{counted}
use Rattle.packing_model.specs.Nodes.{fixed_of, stage_at}
use Rattle.search_nodes.proofs.RowLaws.{clash_shares}
use Rattle.node_bound.proofs.WholeLaws.{numbers, whole_apart, whole_held, both_ok}
use Rattle.node_bound.proofs.whole.whole_choice.Goals as goal

pub to_choice-requires-clause-clashless : goal.to_choice-requires-clause-clashless
to_choice-requires-clause-clashless g c =
    let p = c.args.at.now.model.now in
    let x = c.args.point.now in
    let is : c.as_slice-2.result.now ≡ numbers x.entries = c.as_slice-2.ensures ∙ c.in_ok-patterns.ensures ∙ ap numbers c.as_slice.ensures in
    let apart = whole_apart p x c.requires.point.point c.requires.whole c.requires.point.base (clash_shares p c.laws.ensures.problem) in
    subst (λ (f : Facts). AreClashless f c.patterns.result.now c.as_slice-2.result.now) (sym c.problem.ensures)
    (subst (λ (s : List Pattern). AreClashless p s c.as_slice-2.result.now) (sym c.patterns.ensures.patterns)
    (subst (λ (list : List ℕ). AreClashless p (patterns_of p) list) (sym is) apart))

pub returns : goal.returns
returns g c =
    let at = c.args.at.now in
    let p = at.model.now in
    let x = c.args.point.now in
    let w : Weights = counted (g.O.Objective.weight at.objective.now) (g.O.Objective.floor at.objective.now) in
    let s = stage_at at.level at.targets.now at.best at.pool.now in
    let is : c.as_slice-2.result.now ≡ numbers x.entries = c.as_slice-2.ensures ∙ c.in_ok-patterns.ensures ∙ ap numbers c.as_slice.ensures in
    both_ok c.to_choice.result _ _ _ (λ a legal back.
    whole_held p w s (fixed_of at.fixing.now) x a.entries c.requires.point c.requires.whole c.requires.above (subst (λ (f : Facts). IsLegal f a.entries) c.problem.ensures legal)
    (subst (λ (list : List ℕ). (i : ℕ) → i < length (patterns_of p) → chooses p a.entries (pattern_at (patterns_of p) i) ≡ member i list) is
    (subst (λ (ps : List Pattern). (i : ℕ) → i < length ps → chooses p a.entries (pattern_at ps i) ≡ member i c.as_slice-2.result.now) c.patterns.ensures.patterns
    (subst (λ (f : Facts). (i : ℕ) → i < length c.patterns.result.now → chooses f a.entries (pattern_at c.patterns.result.now i) ≡ member i c.as_slice-2.result.now) c.problem.ensures back))))
    c.to_choice.ensures.legal c.to_choice.ensures.back
