use Rattle.std.proofs.Common.{◌≡◌, ◌^◌, length}
use Rattle.problem_core.specs.Courses.{passing}
use Rattle.meeting_patterns.specs.Pattern.{is_mask}
use Rattle.meeting_patterns.proofs.set.count_in_room.Given as goal

abbrev pub invariant-loop-event : goal.invariant-loop-event
invariant-loop-event l = l.count ≡ length (passing (is_mask l.p l.course l.room) (2 ^ l.event-index))
