-- What a timetable office hands in, as lists; courses, rooms, slots and events are numbered from 0.
use Rattle.std.specs.Prelude.{ℕ, ℤ, Bool, not, ◌&&◌, ◌+◌, ◌==◌, nat_le, zero, suc, List, [], ◌∷◌, length, slice_index, slice_index_or, bit_and}
use Rattle.std.specs.List.{list_any}

-- a meeting: its course, and the slots that it takes
pub record Event : Type 0 where
  pub course : ℕ
  pub takes : List ℕ

-- by course: students and needed features; by room: capacity and features. A set of features is a number with a bit a feature
pub record Facts : Type 0 where
  pub students : List ℕ
  pub needs : List ℕ
  pub capacity : List ℕ
  pub features : List ℕ
  pub slots : ℕ
  pub events : List Event
  -- course and room
  pub denied : List (ℕ × ℕ)
  -- room and slot
  pub closed : List (ℕ × ℕ)
  -- course and room, and the points
  pub prefer : List (ℕ × ℕ × ℤ)
  -- threshold and points
  pub robust : List (ℕ × ℤ)

-- n slots in a row, from s on
abbrev pub run_of : ℕ → ℕ → List ℕ
run_of s zero = []
run_of s (suc n) = s ∷ run_of (s + 1) n

abbrev pub no_event : Event
no_event = record { course = 0; takes = [] }

abbrev pub event_at : Facts → ℕ → Event
event_at p e = slice_index_or p.events e no_event

abbrev pub course_of : Facts → ℕ → ℕ
course_of p e = (event_at p e).course

abbrev pub students_of : Facts → ℕ → ℕ
students_of p e = slice_index p.students (course_of p e)

abbrev pub hours_of : Facts → ℕ → ℕ
hours_of p e = length (event_at p e).takes

abbrev pub capacity_of : Facts → ℕ → ℕ
capacity_of p r = slice_index p.capacity r

abbrev pub is_pair : ℕ → ℕ → ℕ × ℕ → Bool
is_pair a b x = (x.0 == a) && (x.1 == b)

abbrev pub is_denied : Facts → ℕ → ℕ → Bool
is_denied p c r = list_any (is_pair c r) p.denied

abbrev pub is_closed : Facts → ℕ → ℕ → Bool
is_closed p r s = list_any (is_pair r s) p.closed

-- the room has every feature that the course needs
abbrev pub has_features : Facts → ℕ → ℕ → Bool
has_features p c r = bit_and (slice_index p.needs c) (slice_index p.features r) == slice_index p.needs c

-- the room seats the course and has what it needs
abbrev pub seats : Facts → ℕ → ℕ → Bool
seats p c r = nat_le (slice_index p.students c) (capacity_of p r) && has_features p c r

-- and isn't denied to it
abbrev pub admits : Facts → ℕ → ℕ → Bool
admits p c r = seats p c r && not (is_denied p c r)

-- the room admits the event's course, and is closed in none of its slots
abbrev pub suits : Facts → ℕ → ℕ → Bool
suits p e r = admits p (course_of p e) r && not (list_any (is_closed p r) (event_at p e).takes)

-- event e takes slot s
abbrev pub takes_slot : Facts → ℕ → ℕ → Bool
takes_slot p e s = list_any (λ t. t == s) (event_at p e).takes

-- the two events take a slot in common
abbrev pub share_slot : Facts → ℕ → ℕ → Bool
share_slot p e f = list_any (takes_slot p f) (event_at p e).takes
