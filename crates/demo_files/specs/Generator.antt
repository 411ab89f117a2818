-- The input of any size that is made from its number of courses: an instance, its times and its measures, each
-- course, room, meeting and preference given by its number.
use Rattle.std.specs.Prelude.{ℕ, ℤ, pos, ◌+◌, ◌*◌, ◌/◌, ◌%◌, zero, suc, List, [], ◌∷◌, ◌++◌, map, codes, decimal}
use Rattle.std.specs.List.{flat_map}
use Rattle.ctt_reader.specs.declared.instance.Course.{Course}
use Rattle.ctt_reader.specs.declared.instance.Room.{Room}
use Rattle.ctt_reader.specs.declared.instance.Instance.{Instance}
use Rattle.timed_solution.specs.declared.times.Meeting.{Meeting}
use Rattle.timed_solution.specs.declared.times.Times.{Times}
use Rattle.measure_file.specs.declared.measures.Measures.{Measures}

-- the numbers below n, in order
abbrev pub indices : ℕ → List ℕ
indices zero = []
indices (suc n) = indices n ++ n ∷ []

-- a letter and a number
abbrev pub numbered : List ℕ → ℕ → List ℕ
numbered letter i = letter ++ decimal i

-- from 10 to 199 students
abbrev pub students_at : ℕ → ℕ
students_at i = 10 + (i * 37) % 190

-- one, two or three meetings
abbrev pub lectures_at : ℕ → ℕ
lectures_at i = 1 + i % 3

-- course i
abbrev pub course_at : ℕ → Course
course_at i = record { name = numbered (codes "d") i; teacher = numbered (codes "t") i; lectures = lectures_at i; min_days = 1; students = students_at i }

-- room r seats 20 more than the room before it
abbrev pub room_at : ℕ → Room
room_at r = record { name = numbered (codes "h") r; capacity = 20 + 20 * r }

-- n courses and 12 rooms, in a week of 5 days of 8 periods
abbrev pub instance_of : ℕ → Instance
instance_of n = record {
  title = codes "demo" ∷ [];
  courses = map course_at (indices n);
  rooms = map room_at (indices 12);
  days = 5;
  periods = 8;
  curricula = [];
  constraints = [];
}

-- the slot of meeting j of course i: slots are numbered day after day
abbrev pub slot_at : ℕ → ℕ → ℕ
slot_at i j = (i * 7 + j * 11) % 40

-- meeting j of course i has no room
abbrev pub meeting_at : ℕ → ℕ → Meeting
meeting_at i j = record { course = i; room = 0; day = slot_at i j / 8; period = slot_at i j % 8 }

abbrev pub meetings_of : ℕ → List Meeting
meetings_of i = map (meeting_at i) (indices (lectures_at i))

-- all meetings, course after course
abbrev pub times_of : ℕ → Times
times_of n = record { meetings = flat_map meetings_of (indices n) }

-- each course has points for one room, and the rooms take turns
abbrev pub preference_at : ℕ → ℕ × ℕ × ℤ
preference_at i = (i, i % 12, pos 3)

-- preferences, and points for a tenth and for two fifths of spare seats
abbrev pub measures_of : ℕ → Measures
measures_of n = record {
  features = [];
  has = [];
  needs = [];
  denied = [];
  closed = [];
  prefer = map preference_at (indices n);
  robust = (100, pos 2) ∷ (400, pos 1) ∷ [];
  lengths = [];
}
