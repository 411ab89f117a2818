use Rattle.std.proofs.Common.{◌≡◌, ◌++◌, drop, map}
use Rattle.std.specs.Prelude.{codes}
use Rattle.text_lines.specs.Written.{written}
use Rattle.ctt_reader.specs.Writing.{section_lines, course_line}
use Rattle.ctt_reader.proofs.writer.push_courses.Given as goal

abbrev pub invariant-loop-course : goal.invariant-loop-course
invariant-loop-course l = record {
  listed : l.course-items ≡ l.i.courses;
  text : l.text.items ++ written (map course_line (drop l.course-index l.course-items)) ≡ l.fn.text.items ++ written (section_lines (codes "COURSES:") (map course_line l.course-items));
}
