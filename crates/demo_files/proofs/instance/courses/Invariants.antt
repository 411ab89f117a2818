use Rattle.std.proofs.Common.{◌≡◌, map}
use Rattle.demo_files.specs.Generator.{indices, course_at}
use Rattle.demo_files.proofs.instance.courses.Given as goal

abbrev pub invariant-loop-i : goal.invariant-loop-i
invariant-loop-i l = l.courses ≡ map course_at (indices l.i)
