use Rattle.std.proofs.Common.{◌≡◌, ◌++◌, ◌+◌, ◌∷◌, take, drop}
use Rattle.std.specs.Prelude.{map}
use Rattle.meeting_patterns.specs.Pattern.{pattern}
use Rattle.meeting_patterns.proofs.set.add_meeting.Given as goal

abbrev pub invariant-loop-earlier : goal.invariant-loop-earlier
invariant-loop-earlier l = l.patterns ≡ l.fn.patterns ++ l.alone ∷ map (λ x. pattern l.alone.course l.alone.room (l.alone.mask + x.mask)) (drop l.first (take l.earlier l.fn.patterns))
