-- The report as JSON: for each course its rooms, for each room who is in it when, who has no room, and the six values.
use Rattle.std.specs.Prelude.{ℕ, ℤ, pos, neg_ℤ, nat_lt, if◌then◌else◌, List, [], ◌∷◌, ◌++◌, length, map, codes, slice_index_or}
use Rattle.serde_json.specs.Data.{Data, number, unsigned, string, array, object, member, no_members}
use Rattle.serde_json.specs.Find.{of_integer}
use Rattle.serde_json.specs.View.{items_of}
use Rattle.serde_json.specs.Written.{compact_text}
use Rattle.problem_core.specs.Facts.{Facts}
use Rattle.problem_core.specs.Measures.{measures}
use Rattle.ctt_reader.specs.declared.instance.Instance.{Instance}
use Rattle.ctt_reader.specs.Naming.{course_name}
use Rattle.timed_solution.specs.declared.times.Times.{Times}
use Rattle.reports.specs.declared.session.Session.{Session}
use Rattle.reports.specs.declared.session.RoomUse.{RoomUse}
use Rattle.reports.specs.Rooms.{each_below, sessions, in_room, rooms_of, without_room}
use Rattle.reports.specs.Report.{room_at}

abbrev pub whole : ℕ → Data
whole n = number (unsigned n)

abbrev pub list : List Data → Data
list ds = array (items_of ds)

-- ---- meetings and counts

-- the number of periods, where they are more than one
abbrev pub hours_data : ℕ → List Data
hours_data n = if nat_lt 1 n then whole n ∷ [] else []

-- `[COURSE, DAY, PERIOD]`, with the hours last where a session takes more than one period
abbrev pub session_data : Instance → Session → Data
session_data i x = list (string (course_name i x.course) ∷ whole x.day ∷ whole x.period ∷ hours_data x.hours)

abbrev pub sessions_data : Instance → List Session → Data
sessions_data i xs = list (map (session_data i) xs)

-- `[ROOM, COUNT]`
abbrev pub used_data : Instance → ℕ × ℕ → Data
used_data i x = list (string (room_at i x.0).name ∷ whole x.1 ∷ [])

-- ---- rooms and courses

-- room r with these sessions in it
abbrev pub room_with : Instance → ℕ → List Session → Data
room_with i r xs =
    object (member (codes "capacity") (whole (room_at i r).capacity)
    (member (codes "meetings") (sessions_data i xs)
    (member (codes "name") (string (room_at i r).name) no_members)))

-- course c with these rooms and counts
abbrev pub course_with : Instance → ℕ → List (ℕ × ℕ) → Data
course_with i c pairs =
    object (member (codes "name") (string (course_name i c))
    (member (codes "rooms") (list (map (used_data i) pairs)) no_members))

-- each room, with the sessions in it by slot
abbrev pub rooms_data : Instance → (ℕ → List Session) → Data
rooms_data i in_it = list (each_below (λ r. room_with i r (in_it r) ∷ []) (length i.rooms))

-- each course, with its rooms by number, each with how many sessions of the course are there
abbrev pub courses_data : Instance → (ℕ → List (ℕ × ℕ)) → Data
courses_data i used = list (each_below (λ c. course_with i c (used c) ∷ []) (length i.courses))

-- ---- the whole

-- the six values as they are printed, the fifth with its sign turned
abbrev pub printed : List ℤ → List ℤ
printed v =
    slice_index_or v 0 (pos 0) ∷ slice_index_or v 1 (pos 0) ∷ slice_index_or v 2 (pos 0)
    ∷ slice_index_or v 3 (pos 0) ∷ neg_ℤ (slice_index_or v 4 (pos 0)) ∷ slice_index_or v 5 (pos 0) ∷ []

abbrev pub values_data : List ℤ → Data
values_data v = list (map (λ z. number (of_integer z)) (printed v))

-- the object of a report with these parts, its keys in rising order
abbrev pub report_of : Data → Data → Data → Data → Data
report_of courses rooms unroomed values =
    object (member (codes "courses") courses
    (member (codes "rooms") rooms
    (member (codes "unroomed") unroomed
    (member (codes "values") values no_members))))

-- of these sessions and values
abbrev pub sessions_report : Instance → List Session → List ℤ → Data
sessions_report i xs v = report_of (courses_data i (rooms_of i xs)) (rooms_data i (in_room i xs)) (sessions_data i (without_room xs)) (values_data v)

-- the report of a choice
abbrev pub report_data : Instance → Times → Facts → List ℕ → Data
report_data i t p a = sessions_report i (sessions t p a) (measures p a)

-- its compact text, and a line feed
abbrev pub json_line : Instance → Times → Facts → List ℕ → List ℕ
json_line i t p a = compact_text (report_data i t p a) ++ codes "\n"

-- ---- for private clauses

-- of lists that are kept by course and by room
abbrev pub kept_report : Instance → RoomUse → List ℤ → Data
kept_report i u v =
    report_of (courses_data i (λ c. slice_index_or u.by_course.items c [])) (rooms_data i (λ r. slice_index_or u.by_room.items r []))
    (sessions_data i u.unroomed) (values_data v)
