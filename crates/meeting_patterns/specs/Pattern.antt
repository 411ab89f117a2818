-- Patterns: some meetings of a course that share a room.
use Rattle.std.specs.Prelude.{ℕ, ℤ, negsuc, ◌≡◌, ◌+◌, ◌/◌, ◌%◌, ◌^◌, ◌<◌, ◌≤◌, ◌⊎◌, ◌&&◌, ◌||◌, ◌==◌, Bool, true, not, zero, suc, if◌then◌else◌, List, [], ◌∷◌, ◌++◌, map, length, slice_index_or, IsTrue, Result, Ok, Err}
use Rattle.numbers.specs.Below.{any_below}
use Rattle.numbers.specs.Sums.{sum_below, picked}
use Rattle.problem_core.specs.Facts.{Facts, suits, share_slot, course_of}
use Rattle.problem_core.specs.Choice.{entry}
use Rattle.problem_core.specs.Courses.{is_of_course, place_of, meetings_of, passing}
use Rattle.problem_core.specs.Measures.{gain}
use Rattle.problem_core.specs.declared.limit.LimitKind.TheVariants.{Patterns}
use Rattle.problem_core.specs.declared.limit.BuildFault.{BuildFault}
use Rattle.problem_core.specs.declared.limit.BuildFault.TheVariants.{Limit as Over, Memory}
use Rattle.meeting_patterns.specs.declared.pattern.Pattern.{Pattern}

-- bit j of a number
abbrev pub has_bit : ℕ → ℕ → Bool
has_bit m zero = m % 2 == 1
has_bit m (suc j) = has_bit (m / 2) j

-- event e is one of the pattern's: bit j of the mask is the j-th event of the course
abbrev pub within : Facts → Pattern → ℕ → Bool
within p x e = is_of_course p x.course e && has_bit x.mask (place_of p e)

-- the mask names some meetings of the course, and they all suit the room
pub record IsPattern (p : Facts) (x : Pattern) : Type 0 where
  pub known_course : x.course < length p.students
  pub known_room : x.room < length p.capacity
  pub some : 1 ≤ x.mask
  pub of_course : x.mask < 2 ^ meetings_of p x.course
  pub suitable : (e : ℕ) → e < length p.events → within p x e ≡ true → IsTrue (suits p e x.room)

-- by course, then room, then mask as a number
abbrev pub IsBefore : Pattern → Pattern → Type 0
IsBefore x y = (x.course < y.course) ⊎ ((x.course ≡ y.course) × ((x.room < y.room) ⊎ ((x.room ≡ y.room) × (x.mask < y.mask))))

abbrev pub no_pattern : Pattern
no_pattern = record { course = 0; room = 0; mask = 0 }

abbrev pub pattern_at : List Pattern → ℕ → Pattern
pattern_at s i = slice_index_or s i no_pattern

-- all patterns of the problem, each once, in order
pub record ArePatterns (p : Facts) (s : List Pattern) : Type 0 where
  pub each : (i : ℕ) → i < length s → IsPattern p (pattern_at s i)
  pub all : (x : Pattern) → IsPattern p x → (i : ℕ) × (i < length s) × (pattern_at s i ≡ x)
  pub rising : (i j : ℕ) → i < j → j < length s → IsBefore (pattern_at s i) (pattern_at s j)

abbrev pub is_same : Pattern → Pattern → Bool
is_same x y = (x.course == y.course) && (x.room == y.room) && (x.mask == y.mask)

abbrev pub share_event : Facts → Pattern → Pattern → Bool
share_event p x y = any_below (λ e. within p x e && within p y e) (length p.events)

-- an event of x and one of y take a slot in common
abbrev pub share_a_slot : Facts → Pattern → Pattern → Bool
share_a_slot p x y = any_below (λ e. within p x e && any_below (λ f. within p y f && share_slot p e f) (length p.events)) (length p.events)

-- they differ, and share an event, or have one room and events with a slot in common, or one course and one room
abbrev pub clash : Facts → Pattern → Pattern → Bool
clash p x y = not (is_same x y) && (share_event p x y || ((x.room == y.room) && (share_a_slot p x y || (x.course == y.course))))

-- what the pattern adds to measure k
abbrev pub weight : Facts → ℕ → Pattern → ℤ
weight p k x = if k == 5 then negsuc 0 else sum_below (λ e. picked (within p x e) (gain p k e x.room)) (length p.events)

-- ---- what a choice chooses

abbrev pub is_equal : Bool → Bool → Bool
is_equal a b = (a && b) || (not a && not b)

-- event e of the pattern's course stands in the pattern exactly where the choice gives it the pattern's room
abbrev pub agrees_at : Facts → List ℕ → Pattern → ℕ → Bool
agrees_at p a x e = not (is_of_course p x.course e) || is_equal (has_bit x.mask (place_of p e)) (entry a e == x.room + 1)

-- the events of the course that the choice puts into the room are exactly the pattern's
abbrev pub chooses : Facts → List ℕ → Pattern → Bool
chooses p a x = not (any_below (λ e. not (agrees_at p a x e)) (length p.events))

-- each event is of a course of the problem
pub record AreCoursesKnown (p : Facts) : Type 0 where
  pub known : (e : ℕ) → e < length p.events → course_of p e < length p.students

-- ---- the list of all patterns, room after room, course after course

abbrev pub pattern : ℕ → ℕ → ℕ → Pattern
pattern c r m = record { course = c; room = r; mask = m }

-- the mask names some meetings, and they all suit the room
abbrev pub is_mask : Facts → ℕ → ℕ → ℕ → Bool
is_mask p c r m = not (m == 0) && not (any_below (λ e. within p (pattern c r m) e && not (suits p e r)) (length p.events))

abbrev pub masks_at : Facts → ℕ → ℕ → List ℕ
masks_at p c r = passing (is_mask p c r) (2 ^ meetings_of p c)

-- the patterns of the course in the rooms below r
abbrev pub in_rooms : Facts → ℕ → ℕ → List Pattern
in_rooms p c zero = []
in_rooms p c (suc r) = in_rooms p c r ++ map (pattern c r) (masks_at p c r)

-- the patterns of the courses below c
abbrev pub in_courses : Facts → ℕ → List Pattern
in_courses p zero = []
in_courses p (suc c) = in_courses p c ++ in_rooms p c (length p.capacity)

abbrev pub patterns_of : Facts → List Pattern
patterns_of p = in_courses p (length p.students)

-- the patterns where there are at most 200,000, else how many there are
abbrev pub Lists : Facts → Result (List Pattern) BuildFault → Type 0
Lists p (Ok s) = (s ≡ patterns_of p) × (length s ≤ 200000)
Lists p (Err (Over limit)) = (limit ≡ record { kind = Patterns; count = length (patterns_of p); limit = 200000 }) × (200000 < length (patterns_of p))
Lists p (Err Memory) = Unit {0}

-- the six weights
abbrev pub weights : Facts → Pattern → List ℤ
weights p x = weight p 1 x ∷ weight p 2 x ∷ weight p 3 x ∷ weight p 4 x ∷ weight p 5 x ∷ weight p 6 x ∷ []
