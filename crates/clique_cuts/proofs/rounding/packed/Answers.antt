use Rattle.std.proofs.Common.{List, ℕ, sym, subst}
use Rattle.problem_core.specs.Facts.{Facts}
use Rattle.meeting_patterns.specs.declared.pattern.Pattern.{Pattern}
use Rattle.meeting_patterns.specs.Made.{AreClashless}
use Rattle.meeting_patterns.specs.Pattern.{patterns_of}
use Rattle.clique_cuts.proofs.BetterLaws.{clashless}
use Rattle.clique_cuts.proofs.rounding.packed.Goals as goal

pub to_choice-requires-clause-clashless : goal.to_choice-requires-clause-clashless
to_choice-requires-clause-clashless c =
    let p = c.args.m.now in
    let free = clashless p c.in_ok-walk.walk.fixing (c.walk_laws.ensures.valid p c.in_ok-walk.walk c.in_ok-walk.ensures) in
    subst (λ (f : Facts). AreClashless f c.patterns.result.now c.as_slice.result.now) (sym c.problem.ensures)
    (subst (λ (s : List Pattern). AreClashless p s c.as_slice.result.now) (sym c.patterns.ensures.patterns)
    (subst (λ (list : List ℕ). AreClashless p (patterns_of p) list) (sym c.as_slice.ensures) free))
