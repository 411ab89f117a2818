-- The first meeting that is too long for its day, or shares a slot with an earlier one of its course.
use Rattle.std.specs.Prelude.{ℕ, ◌≡◌, ◌+◌, ◌==◌, ◌&&◌, Bool, nat_lt, List, [], ◌∷◌, ◌++◌, length, if◌then◌else◌, Option, Some, None, Result, Ok, Err, position}
use Rattle.std.specs.List.{list_any}
use Rattle.problem_core.specs.Facts.{Facts, run_of}
use Rattle.problem_core.specs.Limits.{limit_of}
use Rattle.problem_core.specs.declared.parts.EventPart.{EventPart}
use Rattle.ctt_reader.specs.declared.instance.Instance.{Instance}
use Rattle.timed_solution.specs.declared.times.Times.{Times}
use Rattle.timed_solution.specs.declared.times.Meeting.{Meeting}
use Rattle.measure_file.specs.declared.measures.Measures.{Measures}
use Rattle.room_model.specs.ProblemOf.{length_of, event_part, problem_of}
use Rattle.room_model.specs.declared.long.LongFault.{LongFault}
use Rattle.room_model.specs.declared.long.LongFault.TheVariants.{PastDay, Overlap}
use Rattle.room_model.specs.declared.problem.ProblemFault.{ProblemFault}
use Rattle.room_model.specs.declared.problem.ProblemFault.TheVariants.{Long, Limit, Memory}

abbrev pub takes_slot : EventPart → ℕ → Bool
takes_slot e s = list_any (λ t. t == s) (run_of e.slot e.length)

-- the two take a slot in common
abbrev pub share_slot : EventPart → EventPart → Bool
share_slot e f = list_any (takes_slot f) (run_of e.slot e.length)

-- they are of one course, and take a slot in common
abbrev pub overlaps : EventPart → EventPart → Bool
overlaps e f = (f.course == e.course) && share_slot e f

-- the meeting's periods go on past the last one of its day
abbrev pub passes_day : Instance → Measures → Meeting → Bool
passes_day i m x = nat_lt i.periods (x.period + length_of m x.course)

-- the overlap of an event with the earlier one that is found
abbrev pub overlap_of : Option ℕ → ℕ → Option LongFault
overlap_of None event = None
overlap_of (Some first) event = Some (Overlap first event)

-- what is wrong with a meeting that comes after these: it passes its day, else the least earlier one overlaps it
abbrev pub fault_after : Instance → Measures → List Meeting → Meeting → Option LongFault
fault_after i m before x =
    if passes_day i m x then Some (PastDay (length before))
    else overlap_of (position (λ y. overlaps (event_part i.periods m x) (event_part i.periods m y)) before) (length before)

abbrev pub unless_found : Option LongFault → Option LongFault → Option LongFault
unless_found None later = later
unless_found (Some fault) later = Some fault

-- what is wrong with the first of the meetings with which something is, after those before
abbrev pub long_from : Instance → Measures → List Meeting → List Meeting → Option LongFault
long_from i m before [] = None
long_from i m before (x ∷ meetings) = unless_found (fault_after i m before x) (long_from i m (before ++ x ∷ []) meetings)

abbrev pub long_fault : Instance → Times → Measures → Option LongFault
long_fault i t m = long_from i m [] t.meetings

-- the problem where no meeting is at fault and no limit is passed, else the meeting's fault, else the limit
abbrev pub Converts : Instance → Times → Measures → Result Facts ProblemFault → Type 0
Converts i t m (Ok p) = (p ≡ problem_of i t m) × (long_fault i t m ≡ None) × (limit_of (problem_of i t m) ≡ None)
Converts i t m (Err (Long fault)) = long_fault i t m ≡ Some fault
Converts i t m (Err (Limit limit)) = (long_fault i t m ≡ None) × (limit_of (problem_of i t m) ≡ Some limit)
Converts i t m (Err Memory) = Unit {0}
