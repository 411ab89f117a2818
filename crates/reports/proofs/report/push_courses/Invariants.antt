use Rattle.std.proofs.Common.{◌≡◌, ◌++◌, []}
use Rattle.std.specs.Prelude.{slice_index_or}
use Rattle.reports.specs.Rooms.{each_below}
use Rattle.reports.specs.Report.{course_text}
use Rattle.reports.proofs.report.push_courses.Given as goal

abbrev pub invariant-loop-course : goal.invariant-loop-course
invariant-loop-course l = l.text.items ≡ l.fn.text.items ++ each_below (λ c. course_text l.instance c (slice_index_or l.uses c [])) l.course
