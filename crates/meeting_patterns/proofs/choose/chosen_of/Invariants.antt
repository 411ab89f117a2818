use Rattle.std.proofs.Common.{◌≡◌}
use Rattle.problem_core.specs.Courses.{passing}
use Rattle.meeting_patterns.specs.Pattern.{pattern_at, chooses}
use Rattle.meeting_patterns.proofs.choose.chosen_of.Given as goal

abbrev pub invariant-loop-i : goal.invariant-loop-i
invariant-loop-i l = l.chosen ≡ passing (λ i. chooses l.p l.entries (pattern_at l.s i)) l.i
