-- The problem that the three files state.
use Rattle.std.specs.Prelude.{ℕ, ◌+◌, ◌*◌, ◌^◌, ◌==◌, bit_or, List, [], ◌∷◌, length, map, if◌then◌else◌}
use Rattle.problem_core.specs.Facts.{Facts, run_of}
use Rattle.problem_core.specs.OfParts.{facts_of}
use Rattle.problem_core.specs.declared.parts.Parts.{Parts}
use Rattle.problem_core.specs.declared.parts.EventPart.{EventPart}
use Rattle.ctt_reader.specs.declared.instance.Instance.{Instance}
use Rattle.ctt_reader.specs.declared.instance.Course.{Course}
use Rattle.ctt_reader.specs.declared.instance.Room.{Room}
use Rattle.timed_solution.specs.declared.times.Times.{Times}
use Rattle.timed_solution.specs.declared.times.Meeting.{Meeting}
use Rattle.measure_file.specs.declared.measures.Measures.{Measures}

-- the features that the pairs list for a course or room, beside those of the set; bit f stands for feature f
abbrev pub set_from : ℕ → ℕ → List (ℕ × ℕ) → ℕ
set_from k set [] = set
set_from k set (x ∷ pairs) = set_from k (if x.0 == k then bit_or set (2 ^ x.1) else set) pairs

-- one set for each of the n courses or rooms
abbrev pub sets_of : ℕ → List (ℕ × ℕ) → List ℕ
sets_of n pairs = map (λ k. set_from k 0 pairs) (run_of 0 n)

-- the periods that the rows list for the course, else n
abbrev pub length_from : ℕ → ℕ → List (ℕ × ℕ) → ℕ
length_from course n [] = n
length_from course n (x ∷ rows) = length_from course (if x.0 == course then x.1 else n) rows

-- how many periods a meeting of the course takes: 1 where no length is listed for it
abbrev pub length_of : Measures → ℕ → ℕ
length_of m course = length_from course 1 m.lengths

-- a meeting takes so many slots as its course's length says, from the one of its day and period on
abbrev pub event_part : ℕ → Measures → Meeting → EventPart
event_part periods m x = record { course = x.course; slot = x.day * periods + x.period; length = length_of m x.course }

-- a room and a slot in which it is closed
abbrev pub closed_slot : ℕ → ℕ × ℕ × ℕ → ℕ × ℕ
closed_slot periods x = (x.0, x.1 * periods + x.2)

-- students, capacities, meetings, features and wishes as the files list them
abbrev pub parts_of : Instance → Times → Measures → Parts
parts_of i t m = record {
  students = map (λ (c : Course). c.students) i.courses;
  needs = sets_of (length i.courses) m.needs;
  capacity = map (λ (r : Room). r.capacity) i.rooms;
  features = sets_of (length i.rooms) m.has;
  slots = i.days * i.periods;
  events = map (event_part i.periods m) t.meetings;
  denied = m.denied;
  closed = map (closed_slot i.periods) m.closed;
  prefer = m.prefer;
  robust = m.robust;
}

abbrev pub problem_of : Instance → Times → Measures → Facts
problem_of i t m = facts_of (parts_of i t m)

-- the rooms that the times give: 0 for none, else the room's number + 1
abbrev pub given_rooms : Times → List ℕ
given_rooms t = map (λ (x : Meeting). x.room) t.meetings
