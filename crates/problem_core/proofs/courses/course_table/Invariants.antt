use Rattle.problem_core.specs.Courses.{IsCourseTable}
use Rattle.problem_core.specs.OfParts.{facts_of}
use Rattle.problem_core.proofs.courses.course_table.Given as goal

abbrev pub invariant-loop-event : goal.invariant-loop-event
invariant-loop-event l = IsCourseTable (facts_of l.parts) l.event l.table.sizes.items l.table.order.items l.table.places.items
