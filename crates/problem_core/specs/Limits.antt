-- The two limits on meetings.
use Rattle.std.specs.Prelude.{ℕ, ◌≡◌, ◌-◌, ◌==◌, nat_lt, length, if◌then◌else◌, Option, Some, None, Result, Ok, Err}
use Rattle.problem_core.specs.Facts.{Facts}
use Rattle.problem_core.specs.Courses.{meetings_of}
use Rattle.numbers.specs.Below.{first_from}
use Rattle.problem_core.specs.declared.limit.Limit.{Limit}
use Rattle.problem_core.specs.declared.limit.LimitKind.TheVariants.{Meetings, CourseMeetings}
use Rattle.problem_core.specs.declared.limit.BuildFault.{BuildFault}
use Rattle.problem_core.specs.declared.limit.BuildFault.TheVariants.{Limit as Over, Memory}

-- the lowest course of more than 12 events, + 1; else 0
abbrev pub crowded_course : Facts → ℕ
crowded_course p = first_from (λ c. nat_lt 12 (meetings_of p c)) 0 (length p.students)

abbrev pub course_limit : Facts → ℕ → Option Limit
course_limit p found =
    if found == 0 then None else Some (record { kind = CourseMeetings; count = meetings_of p (found - 1); limit = 12 })

-- the limit that is passed
abbrev pub limit_of : Facts → Option Limit
limit_of p =
    if nat_lt 4000 (length p.events) then Some (record { kind = Meetings; count = length p.events; limit = 4000 })
    else course_limit p (crowded_course p)

-- the facts where they pass no limit, else that limit
abbrev pub Builds : Facts → Result Facts BuildFault → Type 0
Builds p (Ok f) = (f ≡ p) × (limit_of p ≡ None)
Builds p (Err (Over limit)) = limit_of p ≡ Some limit
Builds p (Err Memory) = Unit {0}
