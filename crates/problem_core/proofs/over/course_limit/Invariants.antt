use Rattle.std.proofs.Common.{◌≡◌, ◌-◌, length}
use Rattle.std.specs.Prelude.{nat_lt}
use Rattle.numbers.specs.Below.{first_from}
use Rattle.problem_core.specs.Courses.{meetings_of}
use Rattle.problem_core.specs.OfParts.{facts_of}
use Rattle.problem_core.proofs.over.course_limit.Given as goal

abbrev pub invariant-loop-course : goal.invariant-loop-course
invariant-loop-course l =
    first_from (λ c. nat_lt 12 (meetings_of (facts_of l.parts) c)) 0 (length l.parts.students)
    ≡ first_from (λ c. nat_lt 12 (meetings_of (facts_of l.parts) c)) l.course (length l.parts.students - l.course)
