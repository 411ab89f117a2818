use Rattle.std.proofs.Common.{◌≡◌, map, take}
use Rattle.itc_score.specs.Places.{closed_place}
use Rattle.itc_score.proofs.lines.closed_places.Given as goal

abbrev pub invariant-loop-course : goal.invariant-loop-course
invariant-loop-course l = l.pairs.items ≡ map closed_place (take l.course-index l.constraints)
