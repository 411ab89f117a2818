-- The lines that are printed of values, of faults and of meetings.
use Rattle.std.specs.Prelude.{ℕ, ℤ, pos, neg_ℤ, ◌≡◌, ◌<◌, ◌≤◌, List, [], ◌∷◌, ◌++◌, length, codes, decimal, slice_index_or, ◌&&◌, Bool, nat_lt}
use Rattle.std.specs.List.{All}
use Rattle.std.specs.Fmt.{signed_decimal}
use Rattle.problem_core.specs.declared.limit.Limit.{Limit}
use Rattle.problem_core.specs.declared.limit.LimitKind.{LimitKind}
use Rattle.problem_core.specs.declared.limit.LimitKind.TheVariants.{Meetings, CourseMeetings, Patterns, Rows}
use Rattle.problem_core.specs.declared.choice.RoomFault.{RoomFault}
use Rattle.problem_core.specs.declared.choice.RoomFault.TheVariants.{Unsuitable, Clash}
use Rattle.ctt_reader.specs.declared.instance.Instance.{Instance}
use Rattle.timed_solution.specs.declared.times.Times.{Times}
use Rattle.timed_solution.specs.declared.times.Meeting.{Meeting}
use Rattle.room_model.specs.Names.{course_name, room_name}
use Rattle.room_model.specs.declared.long.LongFault.{LongFault}
use Rattle.room_model.specs.declared.long.LongFault.TheVariants.{PastDay, Overlap}

abbrev pub limit_name : LimitKind → List ℕ
limit_name Meetings = codes "meetings"
limit_name CourseMeetings = codes "meetings of a course"
limit_name Patterns = codes "patterns"
limit_name Rows = codes "rows"

abbrev pub over_limit_text : Limit → List ℕ
over_limit_text l = codes "bad input: " ++ limit_name l.kind ++ codes " " ++ decimal l.count ++ codes " over " ++ decimal l.limit ++ codes "\n"

abbrev pub no_meeting : Meeting
no_meeting = record { course = 0; room = 0; day = 0; period = 0 }

abbrev pub meeting_at : Times → ℕ → Meeting
meeting_at t e = slice_index_or t.meetings e no_meeting

-- `COURSE ROOM DAY PERIOD`, with the room of the entry
abbrev pub placed_words : Instance → Meeting → ℕ → List ℕ
placed_words i m entry = course_name i m.course ++ codes " " ++ room_name i entry ++ codes " " ++ decimal m.day ++ codes " " ++ decimal m.period

-- `COURSE ROOM DAY PERIOD`, with the room of the meeting
abbrev pub given_words : Instance → Meeting → List ℕ
given_words i m = placed_words i m m.room

-- `COURSE DAY PERIOD`
abbrev pub timed_words : Instance → Meeting → List ℕ
timed_words i m = course_name i m.course ++ codes " " ++ decimal m.day ++ codes " " ++ decimal m.period

abbrev pub meeting_line : Instance → Meeting → ℕ → List ℕ
meeting_line i m entry = placed_words i m entry ++ codes "\n"

-- a line a meeting, in their order
abbrev pub meeting_lines : Instance → List Meeting → List ℕ → List ℕ
meeting_lines i [] entries = []
meeting_lines i (m ∷ ms) [] = []
meeting_lines i (m ∷ ms) (entry ∷ entries) = meeting_line i m entry ++ meeting_lines i ms entries

-- the courses of the meetings and the rooms of the entries are there, and each meeting has an entry
pub record AreNamed (i : Instance) (meetings : List Meeting) (entries : List ℕ) : Type 0 where
  pub one_each : length entries ≡ length meetings
  pub courses : All (λ (m : Meeting). m.course < length i.courses) meetings
  pub rooms : All (λ e. e ≤ length i.rooms) entries

-- a name, its value, and a line feed
abbrev pub value_line : List ℕ → ℤ → List ℕ
value_line name value = name ++ codes " " ++ signed_decimal value ++ codes "\n"

-- the lines of six values, the fifth with its sign turned
abbrev pub value_lines : List ℤ → List ℕ
value_lines v =
    value_line (codes "event hours") (slice_index_or v 0 (pos 0))
    ++ value_line (codes "seated students") (slice_index_or v 1 (pos 0))
    ++ value_line (codes "seat utilisation") (slice_index_or v 2 (pos 0))
    ++ value_line (codes "room preference") (slice_index_or v 3 (pos 0))
    ++ value_line (codes "course rooms") (neg_ℤ (slice_index_or v 4 (pos 0)))
    ++ value_line (codes "spare robustness") (slice_index_or v 5 (pos 0))

-- why the given rooms aren't legal
abbrev pub room_fault_text : Instance → Times → RoomFault → List ℕ
room_fault_text i t (Unsuitable e) = codes "not legal\nunsuitable " ++ given_words i (meeting_at t e) ++ codes "\n"
room_fault_text i t (Clash f e) = codes "not legal\nclash " ++ given_words i (meeting_at t f) ++ codes " " ++ given_words i (meeting_at t e) ++ codes "\n"

-- which meeting is too long for its day, or for an earlier one of its course
abbrev pub long_text : Instance → Times → LongFault → List ℕ
long_text i t (PastDay e) = codes "bad input: meeting " ++ timed_words i (meeting_at t e) ++ codes " past the day\n"
long_text i t (Overlap f e) = codes "bad input: meetings overlap " ++ timed_words i (meeting_at t f) ++ codes " " ++ timed_words i (meeting_at t e) ++ codes "\n"

-- the events that a fault names are below n
abbrev pub room_fault_within : ℕ → RoomFault → Bool
room_fault_within n (Unsuitable e) = nat_lt e n
room_fault_within n (Clash f e) = nat_lt f n && nat_lt e n

abbrev pub long_fault_within : ℕ → LongFault → Bool
long_fault_within n (PastDay e) = nat_lt e n
long_fault_within n (Overlap f e) = nat_lt f n && nat_lt e n
