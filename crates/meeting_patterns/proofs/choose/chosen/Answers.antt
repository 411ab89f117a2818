use Rattle.std.proofs.Common.{ℕ, List, ◌∙◌, ap, length}
use Rattle.problem_core.specs.Courses.{passing}
use Rattle.meeting_patterns.specs.Pattern.{chooses, pattern_at}
use Rattle.meeting_patterns.proofs.ChosenLemmas.{chosen_clashless}
use Rattle.meeting_patterns.proofs.choose.chosen.Goals as goal

pub returns-clause-clashless : goal.returns-clause-clashless
returns-clause-clashless c =
    let p = c.args.p.now in
    let s = c.args.s.now in
    chosen_clashless p s c.args.a.now.entries c.into_vec.result.items c.requires.patterns c.requires.legal
    (c.into_vec.ensures ∙ c.in_ok-chosen.ensures ∙ ap (λ (xs : List ℕ). passing (λ i. chooses p xs (pattern_at s i)) (length s)) c.as_slice.ensures)
