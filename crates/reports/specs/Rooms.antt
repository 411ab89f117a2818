-- Who has which room when: the lists that reports print.
use Rattle.std.specs.Prelude.{ℕ, zero, suc, ◌≡◌, ◌<◌, ◌+◌, ◌*◌, ◌==◌, ◌&&◌, Bool, nat_lt, if◌then◌else◌, true, List, [], ◌∷◌, ◌++◌, length, count_by, slice_index_or}
use Rattle.std.specs.List.{filter, list_all}
use Rattle.problem_core.specs.Facts.{Facts, hours_of}
use Rattle.problem_core.specs.Choice.{entry}
use Rattle.ctt_reader.specs.declared.instance.Instance.{Instance}
use Rattle.timed_solution.specs.declared.times.Times.{Times}
use Rattle.measure_file.specs.declared.measures.Measures.{Measures}
use Rattle.room_model.specs.ProblemOf.{problem_of}
use Rattle.reports.specs.Lines.{meeting_at}
use Rattle.reports.specs.declared.session.Session.{Session}
use Rattle.reports.specs.declared.session.RoomUse.{RoomUse}

-- the pieces of 0, 1, .. below the number, in this order
abbrev pub each_below : {A : Type 0} → (ℕ → List A) → ℕ → List A
each_below piece zero = []
each_below piece (suc n) = each_below piece n ++ piece n

-- ---- sessions: meetings with their rooms and hours

-- event e: its course, day and period from the times, its room from the choice, its hours from the problem
abbrev pub session_at : Times → Facts → List ℕ → ℕ → Session
session_at t p a e = record {
  course = (meeting_at t e).course;
  room = entry a e;
  day = (meeting_at t e).day;
  period = (meeting_at t e).period;
  hours = hours_of p e;
}

-- the sessions of all events, in their order
abbrev pub sessions : Times → Facts → List ℕ → List Session
sessions t p a = each_below (λ e. session_at t p a e ∷ []) (length t.meetings)

-- ---- the meetings of a room by slot

-- the session is in room r, which are numbered from 0, and begins in slot s
abbrev pub begins_in : Instance → ℕ → ℕ → Session → Bool
begins_in i r s x = (x.room == r + 1) && (x.day * i.periods + x.period == s)

-- the sessions in room r: those that begin in the first slot, then those that begin in the next, and so on
abbrev pub in_room : Instance → List Session → ℕ → List Session
in_room i xs r = each_below (λ s. filter (begins_in i r s) xs) (i.days * i.periods)

-- ---- the rooms of a course with counts

-- the session is of course c and in room r
abbrev pub is_there : ℕ → ℕ → Session → Bool
is_there c r x = (x.course == c) && (x.room == r + 1)

-- how many sessions of course c are in room r
abbrev pub count_there : List Session → ℕ → ℕ → ℕ
count_there xs c r = count_by (is_there c r) xs

-- the room with its count, unless that is 0
abbrev pub if_used : ℕ → ℕ → List (ℕ × ℕ)
if_used r n = if n == 0 then [] else (r, n) ∷ []

-- each room that course c uses, by its number, and how many sessions of the course are there
abbrev pub rooms_of : Instance → List Session → ℕ → List (ℕ × ℕ)
rooms_of i xs c = each_below (λ r. if_used r (count_there xs c r)) (length i.rooms)

-- ---- who has no room

abbrev pub has_none : Session → Bool
has_none x = x.room == 0

-- the sessions without a room, in the order of events
abbrev pub without_room : List Session → List Session
without_room xs = filter has_none xs

-- ---- the lists together

-- the courses are there
abbrev pub are_known : Instance → List Session → Bool
are_known i xs = list_all (λ (x : Session). nat_lt x.course (length i.courses)) xs

-- the rooms are there
abbrev pub are_rooms : Instance → List (ℕ × ℕ) → Bool
are_rooms i pairs = list_all (λ (x : ℕ × ℕ). nat_lt x.0 (length i.rooms)) pairs

pub record IsRoomUse (i : Instance) (xs : List Session) (u : RoomUse) : Type 0 where
  pub rooms : length u.by_room.items ≡ length i.rooms
  pub courses : length u.by_course.items ≡ length i.courses
  pub in_rooms : (r : ℕ) → r < length i.rooms → slice_index_or u.by_room.items r [] ≡ in_room i xs r
  pub of_courses : (c : ℕ) → c < length i.courses → slice_index_or u.by_course.items c [] ≡ rooms_of i xs c
  pub unroomed : u.unroomed ≡ without_room xs
  -- what is printed has a name
  pub known_in_rooms : (r : ℕ) → r < length i.rooms → are_known i (slice_index_or u.by_room.items r []) ≡ true
  pub known_of_courses : (c : ℕ) → c < length i.courses → are_rooms i (slice_index_or u.by_course.items c []) ≡ true
  pub known_unroomed : are_known i u.unroomed ≡ true

-- ---- the condition of reports

-- the problem is that of the instance, the times and some measures
pub record IsProblemOf (i : Instance) (t : Times) (p : Facts) : Type 0 where
  pub m : Measures
  pub is : p ≡ problem_of i t m
