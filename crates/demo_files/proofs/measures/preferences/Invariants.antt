use Rattle.std.proofs.Common.{◌≡◌, map}
use Rattle.demo_files.specs.Generator.{indices, preference_at}
use Rattle.demo_files.proofs.measures.preferences.Given as goal

abbrev pub invariant-loop-course : goal.invariant-loop-course
invariant-loop-course l = l.rows ≡ map preference_at (indices l.course)
