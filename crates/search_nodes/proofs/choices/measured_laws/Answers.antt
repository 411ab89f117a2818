use Rattle.meeting_patterns.specs.Pattern.{AreCoursesKnown, patterns_of}
use Rattle.search_nodes.proofs.choices.measured_laws.Goals as goal

pub returns-clause-weighs : goal.returns-clause-weighs
returns-clause-weighs c = λ level a legal.
    let p = c.args.model.now in
    let known : AreCoursesKnown p = record { known = c.laws.ensures.problem.known } in
    c.packing_laws.ensures.measured p (patterns_of p) a known (c.pattern_laws.ensures.listed p) legal level
