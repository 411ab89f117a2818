use Rattle.std.proofs.Common.{◌≡◌, ◌++◌, map}
use Rattle.demo_files.specs.Generator.{indices, meeting_at}
use Rattle.demo_files.proofs.times.add_meetings.Given as goal

abbrev pub invariant-loop-place : goal.invariant-loop-place
invariant-loop-place l = l.meetings ≡ l.fn.meetings ++ map (meeting_at l.course) (indices l.place)
