use Rattle.std.proofs.Common.{◌≡◌, ◌≤◌, ◌*◌, length}
use Rattle.meeting_patterns.specs.Pattern.{in_courses}
use Rattle.meeting_patterns.proofs.set.count.Given as goal

abbrev pub invariant-loop-course : goal.invariant-loop-course
invariant-loop-course l = record {
  counted : l.count ≡ length (in_courses l.p l.course);
  few : l.count ≤ l.course * 819200;
}
