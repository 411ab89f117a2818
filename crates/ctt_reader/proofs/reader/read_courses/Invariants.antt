use Rattle.std.proofs.Common.{◌≡◌, ◌≤◌, length}
use Rattle.std.specs.Prelude.{codes}
use Rattle.ctt_reader.specs.Grammar.{section, section_of}
use Rattle.ctt_reader.specs.Entries.{course_after, course_names}
use Rattle.ctt_reader.proofs.reader.read_courses.Given as goal

abbrev pub invariant-loop-courses : goal.invariant-loop-courses
invariant-loop-courses l = record {
  read : section (codes "ROOMS:") l.wanted course_after l.rows.past l.courses l.rows.rows ≡ section_of (codes "ROOMS:") l.wanted course_after l.initial.rows;
  few : length l.courses ≤ l.wanted;
  names : l.names ≡ course_names l.courses;
}

abbrev pub decreases-loop-courses : goal.decreases-loop-courses
decreases-loop-courses l = length l.rows.rows
