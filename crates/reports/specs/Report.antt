-- The report as text: for each room who is in it when, for each course its rooms, who has no room, and the six values.
use Rattle.std.specs.Prelude.{ℕ, ℤ, ◌≡◌, ◌<◌, ◌≤◌, ◌++◌, nat_lt, if◌then◌else◌, true, List, [], length, codes, decimal, slice_index_or}
use Rattle.std.specs.List.{flat_map}
use Rattle.problem_core.specs.Facts.{Facts}
use Rattle.problem_core.specs.Measures.{measures}
use Rattle.ctt_reader.specs.declared.instance.Instance.{Instance}
use Rattle.ctt_reader.specs.declared.instance.Room.{Room}
use Rattle.ctt_reader.specs.Naming.{course_name, no_room}
use Rattle.timed_solution.specs.declared.times.Times.{Times}
use Rattle.reports.specs.declared.session.Session.{Session}
use Rattle.reports.specs.declared.session.RoomUse.{RoomUse}
use Rattle.reports.specs.Lines.{value_lines}
use Rattle.reports.specs.Rooms.{each_below, sessions, in_room, rooms_of, without_room, are_known, are_rooms}

abbrev pub room_at : Instance → ℕ → Room
room_at i r = slice_index_or i.rooms r no_room

-- ` hours N` where a session takes N periods that are more than one
abbrev pub hours_text : ℕ → List ℕ
hours_text n = if nat_lt 1 n then codes " hours " ++ decimal n else []

-- `DAY PERIOD COURSE` of a session in a room
abbrev pub roomed_line : Instance → Session → List ℕ
roomed_line i x = decimal x.day ++ codes " " ++ decimal x.period ++ codes " " ++ course_name i x.course ++ hours_text x.hours ++ codes "\n"

-- `room NAME CAPACITY`
abbrev pub room_line : Room → List ℕ
room_line r = codes "room " ++ r.name ++ codes " " ++ decimal r.capacity ++ codes "\n"

-- a room, and its sessions
abbrev pub room_text : Instance → ℕ → List Session → List ℕ
room_text i r xs = room_line (room_at i r) ++ flat_map (roomed_line i) xs

-- ` ROOM COUNT`
abbrev pub used_text : Instance → ℕ × ℕ → List ℕ
used_text i x = codes " " ++ (room_at i x.0).name ++ codes " " ++ decimal x.1

-- `course NAME`, then its rooms, each with a count
abbrev pub course_text : Instance → ℕ → List (ℕ × ℕ) → List ℕ
course_text i c rooms = codes "course " ++ course_name i c ++ flat_map (used_text i) rooms ++ codes "\n"

-- `COURSE DAY PERIOD` of a session without a room
abbrev pub unroomed_line : Instance → Session → List ℕ
unroomed_line i x = course_name i x.course ++ codes " " ++ decimal x.day ++ codes " " ++ decimal x.period ++ hours_text x.hours ++ codes "\n"

-- `unroomed K`, and the K sessions
abbrev pub unroomed_text : Instance → List Session → List ℕ
unroomed_text i xs = codes "unroomed " ++ decimal (length xs) ++ codes "\n" ++ flat_map (unroomed_line i) xs

-- each room with the sessions in it by slot
abbrev pub rooms_text : Instance → List Session → List ℕ
rooms_text i xs = each_below (λ r. room_text i r (in_room i xs r)) (length i.rooms)

-- each course with the rooms that it uses, by number, and how many of its sessions are there
abbrev pub courses_text : Instance → List Session → List ℕ
courses_text i xs = each_below (λ c. course_text i c (rooms_of i xs c)) (length i.courses)

-- each room, each course, the sessions without a room in the order of events, and the values
abbrev pub sessions_text : Instance → List Session → List ℤ → List ℕ
sessions_text i xs values = rooms_text i xs ++ courses_text i xs ++ unroomed_text i (without_room xs) ++ value_lines values

-- the report of the choice
abbrev pub report_text : Instance → Times → Facts → List ℕ → List ℕ
report_text i t p a = sessions_text i (sessions t p a) (measures p a)

-- ---- the same from the lists that a report is printed from

-- there is a list for each room and each course, and what is in them has names
pub record ArePrintable (i : Instance) (u : RoomUse) : Type 0 where
  pub rooms : length u.by_room.items ≡ length i.rooms
  pub courses : length u.by_course.items ≡ length i.courses
  pub few_courses : length u.by_course.items ≤ 1000
  pub known_in_rooms : (r : ℕ) → r < length u.by_room.items → are_known i (slice_index_or u.by_room.items r []) ≡ true
  pub known_of_courses : (c : ℕ) → c < length u.by_course.items → are_rooms i (slice_index_or u.by_course.items c []) ≡ true
  pub known_unroomed : are_known i u.unroomed ≡ true

abbrev pub use_text : Instance → RoomUse → List ℤ → List ℕ
use_text i u values =
    each_below (λ r. room_text i r (slice_index_or u.by_room.items r [])) (length i.rooms)
    ++ each_below (λ c. course_text i c (slice_index_or u.by_course.items c [])) (length i.courses)
    ++ unroomed_text i u.unroomed
    ++ value_lines values
