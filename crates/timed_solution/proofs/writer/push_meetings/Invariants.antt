use Rattle.std.proofs.Common.{◌≡◌, ◌++◌, drop}
use Rattle.timed_solution.specs.Writing.{times_text, with_rooms}
use Rattle.timed_solution.proofs.writer.push_meetings.Given as goal

abbrev pub invariant-loop-event : goal.invariant-loop-event
invariant-loop-event l = l.text.items ++ times_text l.i (with_rooms (drop l.event l.meetings) (drop l.event l.entries)) ≡ l.fn.text.items ++ times_text l.i (with_rooms l.meetings l.entries)
