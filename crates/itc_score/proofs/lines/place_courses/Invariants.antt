use Rattle.std.proofs.Common.{◌≡◌, map, take}
use Rattle.itc_score.specs.Places.{place_course}
use Rattle.itc_score.proofs.lines.place_courses.Given as goal

abbrev pub invariant-loop-line : goal.invariant-loop-line
invariant-loop-line l = l.pairs.items ≡ map place_course (take l.line-index l.lines)
