-- Worked rows: suitability and the measures of small problems, computed from the definitions.
use Rattle.std.specs.Prelude.{ℕ, pos, negsuc, ◌≡◌, [], ◌∷◌, true, false, refl, Some}
use Rattle.problem_core.specs.Facts.{Facts, Event, suits, run_of}
use Rattle.problem_core.specs.Measures.{measures}
use Rattle.problem_core.specs.Faults.{first_fault}
use Rattle.problem_core.specs.declared.choice.RoomFault.TheVariants.{Unsuitable, Clash}

abbrev meeting : ℕ → ℕ → ℕ → Event
meeting c s n = record { course = c; takes = run_of s n }

-- two courses of 20 and 30 students want the one room of 30 in the one slot
abbrev two_courses : Facts
two_courses = record {
  students = 20 ∷ 30 ∷ [];
  needs = 0 ∷ 0 ∷ [];
  capacity = 30 ∷ [];
  features = 0 ∷ [];
  slots = 1;
  events = meeting 0 0 1 ∷ meeting 1 0 1 ∷ [];
  denied = [];
  closed = [];
  prefer = [];
  robust = [];
}

second_seated : measures two_courses (0 ∷ 1 ∷ []) ≡ pos 1 ∷ pos 30 ∷ pos 1000 ∷ pos 0 ∷ negsuc 0 ∷ pos 0 ∷ []
second_seated = refl

both_seated : first_fault two_courses (1 ∷ 1 ∷ []) ≡ Some (Clash 0 1)
both_seated = refl

-- one course of 10 in two slots; the room of 10 is closed in the second
abbrev closed_once : Facts
closed_once = record {
  students = 10 ∷ [];
  needs = 0 ∷ [];
  capacity = 10 ∷ 20 ∷ [];
  features = 0 ∷ 0 ∷ [];
  slots = 2;
  events = meeting 0 0 1 ∷ meeting 0 1 1 ∷ [];
  denied = [];
  closed = (0, 1) ∷ [];
  prefer = [];
  robust = [];
}

both_rooms : measures closed_once (1 ∷ 2 ∷ []) ≡ pos 2 ∷ pos 20 ∷ pos 1500 ∷ pos 0 ∷ negsuc 1 ∷ pos 0 ∷ []
both_rooms = refl

not_closed : suits closed_once 1 0 ≡ false
not_closed = refl

in_closed_room : first_fault closed_once (1 ∷ 1 ∷ []) ≡ Some (Unsuitable 1)
in_closed_room = refl

-- the one room seats as many as the course has, one fewer, or nobody
abbrev one_room : ℕ → ℕ → ℕ → Facts
one_room students capacity hours = record {
  students = students ∷ [];
  needs = 0 ∷ [];
  capacity = capacity ∷ [];
  features = 0 ∷ [];
  slots = 3;
  events = meeting 0 0 hours ∷ [];
  denied = [];
  closed = [];
  prefer = (0, 0, negsuc 2) ∷ [];
  robust = (0, pos 7) ∷ (500, pos 9) ∷ (501, pos 1) ∷ [];
}

just_seated : suits (one_room 20 20 1) 0 0 ≡ true
just_seated = refl

one_too_many : suits (one_room 21 20 1) 0 0 ≡ false
one_too_many = refl

-- a room of capacity 0 is used 0, and nothing is spare in it
nobody : measures (one_room 0 0 1) (1 ∷ []) ≡ pos 1 ∷ pos 0 ∷ pos 0 ∷ negsuc 2 ∷ negsuc 0 ∷ pos 7 ∷ []
nobody = refl

-- hours multiply students and utilisation, and neither points nor robustness
three_hours : measures (one_room 10 20 3) (1 ∷ []) ≡ pos 3 ∷ pos 30 ∷ pos 1500 ∷ negsuc 2 ∷ negsuc 0 ∷ pos 9 ∷ []
three_hours = refl

-- three meetings, the room of the first again in the third
abbrev three_meetings : Facts
three_meetings = record {
  students = 10 ∷ [];
  needs = 0 ∷ [];
  capacity = 20 ∷ 20 ∷ [];
  features = 0 ∷ 0 ∷ [];
  slots = 3;
  events = meeting 0 0 1 ∷ meeting 0 1 1 ∷ meeting 0 2 1 ∷ [];
  denied = [];
  closed = [];
  prefer = [];
  robust = [];
}

two_rooms : measures three_meetings (1 ∷ 2 ∷ 1 ∷ []) ≡ pos 3 ∷ pos 30 ∷ pos 1500 ∷ pos 0 ∷ negsuc 1 ∷ pos 0 ∷ []
two_rooms = refl
