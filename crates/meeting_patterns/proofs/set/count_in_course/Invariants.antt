use Rattle.std.proofs.Common.{◌≡◌, ◌≤◌, ◌*◌, length}
use Rattle.meeting_patterns.specs.Pattern.{in_rooms}
use Rattle.meeting_patterns.proofs.set.count_in_course.Given as goal

abbrev pub invariant-loop-room : goal.invariant-loop-room
invariant-loop-room l = record {
  counted : l.count ≡ length (in_rooms l.p l.course l.room);
  few : l.count ≤ l.room * 4096;
}
