-- The score of a timed solution, over the lines of the solution: a line is a lecture in a slot, with or without a room.
use Rattle.std.specs.Prelude.{ℕ, Bool, ◌+◌, ◌-◌, ◌*◌, ◌==◌, ◌&&◌, ◌||◌, not, List, length, bytes_eq, slice_index_or, if◌then◌else◌}
use Rattle.std.specs.List.{list_any, count_by, sum_by}
use Rattle.ctt_reader.specs.declared.instance.Instance.{Instance}
use Rattle.ctt_reader.specs.declared.instance.Course.{Course}
use Rattle.ctt_reader.specs.declared.instance.Room.{Room}
use Rattle.ctt_reader.specs.declared.instance.Curriculum.{Curriculum}
use Rattle.ctt_reader.specs.Naming.{no_course, no_room}
use Rattle.timed_solution.specs.Times.{held_of}
use Rattle.timed_solution.specs.declared.times.Meeting.{Meeting}
use Rattle.itc_score.specs.Sums.{sum_below, count_below, count_pairs}
use Rattle.itc_score.specs.declared.counts.ScoreCounts.{ScoreCounts}

abbrev pub course : Instance → ℕ → Course
course i c = slice_index_or i.courses c no_course

-- the room of an entry, which is the room's number + 1
abbrev pub room : Instance → ℕ → Room
room i entry = slice_index_or i.rooms (entry - 1) no_room

abbrev pub has_room : Meeting → Bool
has_room line = not (line.room == 0)

abbrev pub in_one_slot : Meeting → Meeting → Bool
in_one_slot a b = (a.day == b.day) && (a.period == b.period)

-- ---- lectures

-- how many lectures the course is short of
abbrev pub missing_lectures : Instance → List Meeting → ℕ → ℕ
missing_lectures i lines c = (course i c).lectures - held_of c lines

-- ---- room occupancy

abbrev pub in_one_room : Meeting → Meeting → Bool
in_one_room a b = has_room a && (a.room == b.room) && in_one_slot a b

-- ---- conflicts

abbrev pub is_member : Curriculum → ℕ → Bool
is_member q c = list_any (λ m. m == c) q.members

abbrev pub have_one_teacher : Instance → ℕ → ℕ → Bool
have_one_teacher i c d = bytes_eq (course i c).teacher (course i d).teacher

abbrev pub are_in_one_curriculum : Instance → ℕ → ℕ → Bool
are_in_one_curriculum i c d = list_any (λ q. is_member q c && is_member q d) i.curricula

-- two courses with students or a teacher in common
abbrev pub are_related : Instance → ℕ → ℕ → Bool
are_related i c d = not (c == d) && (have_one_teacher i c d || are_in_one_curriculum i c d)

abbrev pub are_in_conflict : Instance → Meeting → Meeting → Bool
are_in_conflict i a b = in_one_slot a b && are_related i a.course b.course

-- ---- availability

abbrev pub is_unavailable : Instance → Meeting → Bool
is_unavailable i line = list_any (λ x. (x.0 == line.course) && ((x.1 == line.day) && (x.2 == line.period))) i.constraints

-- ---- room capacity

-- the students above the capacity of the line's room
abbrev pub students_above : Instance → Meeting → ℕ
students_above i line = if line.room == 0 then 0 else (course i line.course).students - (room i line.room).capacity

-- ---- minimum working days

abbrev pub is_taught_on : ℕ → ℕ → Meeting → Bool
is_taught_on c day line = (line.course == c) && (line.day == day)

abbrev pub working_days : Instance → List Meeting → ℕ → ℕ
working_days i lines c = count_below (λ day. list_any (is_taught_on c day) lines) i.days

abbrev pub missing_days : Instance → List Meeting → ℕ → ℕ
missing_days i lines c = (course i c).min_days - working_days i lines c

-- ---- curriculum compactness

-- in the period before or after, on the same day
abbrev pub are_next : Meeting → Meeting → Bool
are_next a b = (a.day == b.day) && ((a.period + 1 == b.period) || (b.period + 1 == a.period))

-- the line is of a member, and no line of a member is next to it
abbrev pub stands_alone : Curriculum → List Meeting → Meeting → Bool
stands_alone q lines line = is_member q line.course && not (list_any (λ x. is_member q x.course && are_next line x) lines)

abbrev pub alone_in : List Meeting → Curriculum → ℕ
alone_in lines q = count_by (stands_alone q lines) lines

-- ---- room stability

abbrev pub is_taught_in : ℕ → ℕ → Meeting → Bool
is_taught_in c r line = (line.course == c) && (line.room == r + 1)

abbrev pub rooms_used : Instance → List Meeting → ℕ → ℕ
rooms_used i lines c = count_below (λ r. list_any (is_taught_in c r) lines) (length i.rooms)

-- ---- the score

abbrev pub score_of : Instance → List Meeting → ScoreCounts
score_of i lines = record {
  missing = sum_below (missing_lectures i lines) (length i.courses);
  unroomed = count_by (λ line. line.room == 0) lines;
  occupancy = count_pairs in_one_room lines;
  conflicts = count_pairs (are_in_conflict i) lines;
  availability = count_by (is_unavailable i) lines;
  capacity = sum_by (students_above i) lines;
  days = 5 * sum_below (missing_days i lines) (length i.courses);
  compactness = 2 * sum_by (alone_in lines) i.curricula;
  stability = sum_below (λ c. rooms_used i lines c - 1) (length i.courses);
}

abbrev pub soft_total : ScoreCounts → ℕ
soft_total s = s.capacity + s.days + s.compactness + s.stability
