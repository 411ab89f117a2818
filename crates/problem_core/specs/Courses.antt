-- The events of a course, in order.
use Rattle.std.specs.Prelude.{ℕ, ◌≡◌, ◌+◌, ◌*◌, ◌<◌, ◌==◌, Bool, zero, suc, if◌then◌else◌, List, [], ◌∷◌, ◌++◌, length, slice_index}
use Rattle.problem_core.specs.Facts.{Facts, course_of}

-- the numbers below n that pass, in order
abbrev pub passing : (ℕ → Bool) → ℕ → List ℕ
passing test zero = []
passing test (suc n) = if test n then passing test n ++ n ∷ [] else passing test n

abbrev pub is_of_course : Facts → ℕ → ℕ → Bool
is_of_course p c e = course_of p e == c

-- the course's events
abbrev pub events_of : Facts → ℕ → List ℕ
events_of p c = passing (is_of_course p c) (length p.events)

-- how many events the course has
abbrev pub meetings_of : Facts → ℕ → ℕ
meetings_of p c = length (events_of p c)

-- how many earlier events the event's course has
abbrev pub place_of : Facts → ℕ → ℕ
place_of p e = length (passing (is_of_course p (course_of p e)) e)

-- what is kept of the first n events: for each course how many it has, and the first twelve of them in
-- a row of twelve; for each event its place in its course
pub record IsCourseTable (p : Facts) (n : ℕ) (sizes order places : List ℕ) : Type 0 where
  pub all_sizes : length sizes ≡ length p.students
  pub all_rows : length order ≡ length p.students * 12
  pub all_places : length places ≡ n
  pub sizes_are : (c : ℕ) → c < length p.students → slice_index sizes c ≡ length (passing (is_of_course p c) n)
  pub order_is : (c j : ℕ) → c < length p.students → j < 12 → j < length (passing (is_of_course p c) n) → slice_index order (c * 12 + j) ≡ slice_index (passing (is_of_course p c) n) j
  pub places_are : (e : ℕ) → e < n → slice_index places e ≡ place_of p e
