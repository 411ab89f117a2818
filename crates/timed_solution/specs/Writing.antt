-- The text that is written of meetings: four fields a line with single blanks between them, and a line feed after
-- each line.
use Rattle.std.specs.Prelude.{ℕ, Bool, nat_le, List, [], ◌∷◌, length, map, decimal}
use Rattle.text_lines.specs.Written.{written}
use Rattle.ctt_reader.specs.Naming.{course_name, room_name}
use Rattle.ctt_reader.specs.declared.instance.Instance.{Instance}
use Rattle.timed_solution.specs.declared.times.Meeting.{Meeting}

-- `COURSE ROOM DAY PERIOD`, with `-` for no room
abbrev pub meeting_fields : Instance → Meeting → List (List ℕ)
meeting_fields i m = course_name i m.course ∷ room_name i m.room ∷ decimal m.day ∷ decimal m.period ∷ []

abbrev pub times_text : Instance → List Meeting → List ℕ
times_text i meetings = written (map (meeting_fields i) meetings)

abbrev pub with_room : Meeting → ℕ → Meeting
with_room m entry = record { course = m.course; room = entry; day = m.day; period = m.period }

-- each meeting with the room of its entry
abbrev pub with_rooms : List Meeting → List ℕ → List Meeting
with_rooms [] entries = []
with_rooms (m ∷ meetings) [] = []
with_rooms (m ∷ meetings) (entry ∷ entries) = with_room m entry ∷ with_rooms meetings entries

-- no room, or a known one
abbrev pub is_entry : Instance → ℕ → Bool
is_entry i entry = nat_le entry (length i.rooms)
