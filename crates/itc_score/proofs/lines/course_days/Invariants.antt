use Rattle.std.proofs.Common.{◌≡◌, map, take}
use Rattle.itc_score.specs.Places.{course_day}
use Rattle.itc_score.proofs.lines.course_days.Given as goal

abbrev pub invariant-loop-line : goal.invariant-loop-line
invariant-loop-line l = l.pairs.items ≡ map course_day (take l.line-index l.lines)
