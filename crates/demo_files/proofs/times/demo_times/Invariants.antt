use Rattle.std.proofs.Common.{◌≡◌}
use Rattle.std.specs.List.{flat_map}
use Rattle.demo_files.specs.Generator.{indices, meetings_of}
use Rattle.demo_files.proofs.times.demo_times.Given as goal

abbrev pub invariant-loop-course : goal.invariant-loop-course
invariant-loop-course l = l.meetings ≡ flat_map meetings_of (indices l.course)
