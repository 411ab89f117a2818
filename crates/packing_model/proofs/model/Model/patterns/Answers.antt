use Rattle.std.proofs.Common.{sym, subst}
use Rattle.meeting_patterns.specs.Pattern.{ArePatterns}
use Rattle.packing_model.proofs.model.Model.patterns.Goals as goal

pub returns-clause-are : goal.returns-clause-are
returns-clause-are c =
    subst (λ p. ArePatterns p c.self.inside.made.patterns) c.self.view_is
    (subst (λ s. ArePatterns c.self.inside.problem s) (sym c.self.invariant.patterns_are) (c.pattern_laws.ensures.listed c.self.inside.problem))
