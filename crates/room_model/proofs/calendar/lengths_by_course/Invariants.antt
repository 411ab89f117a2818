use Rattle.room_model.proofs.TableLemmas.{AreLengths}
use Rattle.room_model.proofs.calendar.lengths_by_course.Given as goal

abbrev pub invariant-loop-course : goal.invariant-loop-course
invariant-loop-course l = AreLengths l.courses l.rows l.course-index l.lengths.items
