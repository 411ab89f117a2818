use Rattle.std.proofs.Common.{ℕ, ◌≡◌, ◌<◌, [], length, get_or}
use Rattle.week_page.specs.Page.{course_text}
use Rattle.week_page.proofs.courses.course_texts.Given as goal

abbrev pub invariant-loop-course : goal.invariant-loop-course
invariant-loop-course l = record {
  whole : length l.texts.items ≡ l.course;
  each : (c : ℕ) → c < l.course → get_or l.texts.items c [] ≡ course_text l.i c;
}
