-- Timed solutions: one meeting a line, and the first faulty line with its first fault.
use Rattle.std.specs.Prelude.{ℕ, ◌≡◌, ◌+◌, ◌≤◌, ◌==◌, ◌&&◌, Bool, true, not, if◌then◌else◌, nat_lt, nat_le, List, [], ◌∷◌, ◌++◌, length, zero, suc, Result, Ok, Err, codes, bytes_eq, count_by}
use Rattle.std.specs.List.{list_all, list_any}
use Rattle.input_core.specs.Rows.{unread}
use Rattle.input_core.specs.Fields.{◌>>=◌, in_line, number_below}
use Rattle.input_core.specs.declared.cursors.Row.{Row}
use Rattle.input_core.specs.declared.faults.LineFault.{LineFault}
use Rattle.input_core.specs.declared.faults.LineKind.{LineKind}
use Rattle.input_core.specs.declared.faults.LineKind.TheVariants.{Fields, RepeatedMeeting, TooMany}
use Rattle.ctt_reader.specs.Names.{course_at, room_at}
use Rattle.ctt_reader.specs.Entries.{course_names, room_names}
use Rattle.ctt_reader.specs.declared.instance.Course.{Course}
use Rattle.ctt_reader.specs.declared.instance.Instance.{Instance}
use Rattle.timed_solution.specs.declared.times.Meeting.{Meeting}

-- 0 for `-`, which is no room; else the room's number + 1
abbrev pub room_entry : List (List ℕ) → List ℕ → Result ℕ LineKind
room_entry rooms field = if bytes_eq field (codes "-") then Ok 0 else room_at rooms field >>= λ room. Ok (room + 1)

abbrev pub meeting_in : Instance → List ℕ → List ℕ → List ℕ → List ℕ → Result Meeting LineKind
meeting_in i course room day period = do
  c ← course_at (course_names i.courses) course
  r ← room_entry (room_names i.rooms) room
  d ← number_below i.days day
  p ← number_below i.periods period
  Ok (record { course = c; room = r; day = d; period = p })

-- whether two meetings are of one course and in one slot
abbrev pub same_time : Meeting → Meeting → Bool
same_time a b = (a.course == b.course) && ((a.day == b.day) && (a.period == b.period))

-- how many of the meetings the course has
abbrev pub held_of : ℕ → List Meeting → ℕ
held_of course meetings = count_by (λ m. m.course == course) meetings

-- the lectures of the course with that number
abbrev pub lectures_of : List Course → ℕ → ℕ
lectures_of [] course = 0
lectures_of (c ∷ courses) zero = c.lectures
lectures_of (c ∷ courses) (suc course) = lectures_of courses course

-- a course has no second meeting in one slot, and no more meetings than lectures
abbrev pub admitted : Instance → List Meeting → Meeting → Result Meeting LineKind
admitted i before m =
    if list_any (same_time m) before then Err RepeatedMeeting
    else (if nat_le (lectures_of i.courses m.course) (held_of m.course before) then Err (TooMany (lectures_of i.courses m.course)) else Ok m)

abbrev pub admitted_in : Instance → List Meeting → List ℕ → List ℕ → List ℕ → List ℕ → Result Meeting LineKind
admitted_in i before course room day period = meeting_in i course room day period >>= admitted i before

-- `CourseID RoomID Day Period`, or `CourseID Day Period` for no room
abbrev pub meeting_of : Instance → List Meeting → List (List ℕ) → Result Meeting LineKind
meeting_of i before (course ∷ day ∷ period ∷ []) = admitted_in i before course (codes "-") day period
meeting_of i before (course ∷ room ∷ day ∷ period ∷ []) = admitted_in i before course room day period
meeting_of i before _ = Err Fields

-- the meetings of these lines, after those before
abbrev pub times_from : Instance → List Meeting → List (Result Row LineFault) → Result (List Meeting) LineFault
times_from i before [] = Ok before
times_from i before (Err fault ∷ rows) = Err fault
times_from i before (Ok row ∷ rows) = in_line row.line (meeting_of i before row.fields) >>= λ m. times_from i (before ++ m ∷ []) rows

-- the meetings that a timed solution of the instance lists, or its first faulty line
abbrev pub times_of : Instance → List ℕ → Result (List Meeting) LineFault
times_of i bytes = times_from i [] (unread bytes).rows

-- known numbers
abbrev pub is_meeting : Instance → Meeting → Bool
is_meeting i m = nat_lt m.course (length i.courses) && nat_le m.room (length i.rooms) && nat_lt m.day i.days && nat_lt m.period i.periods

-- no two are of one course in one slot
abbrev pub are_apart : List Meeting → Bool
are_apart [] = true
are_apart (m ∷ meetings) = not (list_any (same_time m) meetings) && are_apart meetings

-- what the meetings that a reader gives keep to
pub record AreTimes (i : Instance) (meetings : List Meeting) : Type 0 where
  pub each : list_all (is_meeting i) meetings ≡ true
  pub apart : are_apart meetings ≡ true
  pub within : (course : ℕ) → held_of course meetings ≤ lectures_of i.courses course
