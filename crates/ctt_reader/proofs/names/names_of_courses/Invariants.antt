use Rattle.std.proofs.Common.{◌≡◌, ◌++◌, drop}
use Rattle.ctt_reader.specs.Entries.{course_names}
use Rattle.ctt_reader.proofs.names.names_of_courses.Given as goal

abbrev pub invariant-loop-course : goal.invariant-loop-course
invariant-loop-course l = l.names ++ course_names (drop l.course-index l.course-items) ≡ course_names l.i.courses
