use Rattle.std.proofs.Common.{◌≡◌, length}
use Rattle.timed_solution.specs.Times.{times_from, times_of}
use Rattle.timed_solution.proofs.times.read_meetings.Given as goal

abbrev pub invariant-loop-placed : goal.invariant-loop-placed
invariant-loop-placed l = record {
  read : times_from l.i l.placed.meetings l.rows.rows ≡ times_of l.i l.bytes;
  same : l.placed.courses ≡ length l.i.courses;
}

abbrev pub decreases-loop-placed : goal.decreases-loop-placed
decreases-loop-placed l = length l.rows.rows
