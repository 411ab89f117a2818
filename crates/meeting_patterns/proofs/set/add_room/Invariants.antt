use Rattle.std.proofs.Common.{◌≡◌, ◌++◌, ◌^◌}
use Rattle.std.specs.Prelude.{map}
use Rattle.problem_core.specs.Courses.{passing}
use Rattle.meeting_patterns.specs.Pattern.{pattern, is_mask}
use Rattle.meeting_patterns.proofs.set.add_room.Given as goal

abbrev pub invariant-loop-event : goal.invariant-loop-event
invariant-loop-event l = l.patterns ≡ l.fn.patterns ++ map (pattern l.course l.room) (passing (is_mask l.p l.course l.room) (2 ^ l.event-index))
