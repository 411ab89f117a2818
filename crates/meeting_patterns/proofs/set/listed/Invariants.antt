use Rattle.std.proofs.Common.{◌≡◌}
use Rattle.meeting_patterns.specs.Pattern.{in_courses}
use Rattle.meeting_patterns.proofs.set.listed.Given as goal

abbrev pub invariant-loop-course : goal.invariant-loop-course
invariant-loop-course l = l.patterns ≡ in_courses l.p l.course
