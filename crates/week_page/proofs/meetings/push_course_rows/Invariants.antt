use Rattle.std.proofs.Common.{◌≡◌, ◌++◌}
use Rattle.week_page.specs.Lists.{each_below}
use Rattle.week_page.specs.Cells.{group_in}
use Rattle.week_page.specs.Page.{course_row}
use Rattle.week_page.proofs.meetings.push_course_rows.Given as goal

abbrev pub invariant-loop-course : goal.invariant-loop-course
invariant-loop-course l = l.text.items ≡ l.fn.text.items ++ each_below (course_row l.i (group_in l.t.courses.items)) l.course
