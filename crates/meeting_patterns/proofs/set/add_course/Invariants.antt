use Rattle.std.proofs.Common.{◌≡◌, ◌++◌}
use Rattle.meeting_patterns.specs.Pattern.{in_rooms}
use Rattle.meeting_patterns.proofs.set.add_course.Given as goal

abbrev pub invariant-loop-room : goal.invariant-loop-room
invariant-loop-room l = l.patterns ≡ l.fn.patterns ++ in_rooms l.p l.course l.room
