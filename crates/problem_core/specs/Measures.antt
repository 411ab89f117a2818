-- The six measures of a choice, and what it means to be best.
use Rattle.std.specs.Prelude.{slice_index_or, ℕ, ℤ, pos, negsuc, ◌≡◌, ◌-◌, ◌*◌, ◌/◌, ◌<◌, ◌≤◌, ◌≤ℤ◌, ◌&&◌, ◌==◌, Bool, not, nat_le, int_lt, if◌then◌else◌, List, [], ◌∷◌, length}
use Rattle.std.specs.Ordering.{int_eq}
use Rattle.numbers.specs.Below.{any_below}
use Rattle.numbers.specs.Sums.{sum_below}
use Rattle.problem_core.specs.Facts.{Facts, course_of, students_of, hours_of, capacity_of}
use Rattle.problem_core.specs.Choice.{entry, IsLegal}

-- a thousand times part over whole, rounded down; 0 where whole is 0
abbrev pub per_mille : ℕ → ℕ → ℕ
per_mille part whole = if whole == 0 then 0 else 1000 * part / whole

-- the points that are listed for a course and a room, else 0
abbrev pub points_of : ℕ → ℕ → List (ℕ × ℕ × ℤ) → ℤ
points_of c r [] = pos 0
points_of c r (x ∷ xs) = if (x.0 == c) && (x.1 == r) then x.2 else points_of c r xs

-- the points of the last row whose threshold is at most x, else those before
abbrev pub points_up_to : ℕ → ℤ → List (ℕ × ℤ) → ℤ
points_up_to x before [] = before
points_up_to x before (row ∷ rows) = points_up_to x (if nat_le row.0 x then row.1 else before) rows

-- what event e in room r adds to measure k
abbrev pub gain : Facts → ℕ → ℕ → ℕ → ℤ
gain p k e r =
    if k == 1 then pos (hours_of p e)
    else (if k == 2 then pos (hours_of p e * students_of p e)
    else (if k == 3 then pos (hours_of p e * per_mille (students_of p e) (capacity_of p r))
    else (if k == 4 then points_of (course_of p e) r p.prefer
    else points_up_to (per_mille (capacity_of p r - students_of p e) (capacity_of p r)) (pos 0) p.robust)))

-- event f is of course c and has the entry x
abbrev pub meets_there : Facts → List ℕ → ℕ → ℕ → ℕ → Bool
meets_there p a c x f = (course_of p f == c) && (entry a f == x)

-- no earlier event of the same course has the room of event e
abbrev pub is_new_room : Facts → List ℕ → ℕ → Bool
is_new_room p a e = not (any_below (meets_there p a (course_of p e) (entry a e)) e)

-- what event e adds to measure k of the choice; measure 5 counts, negated, the events with a room
-- that no earlier event of the same course has
abbrev pub gained : Facts → ℕ → List ℕ → ℕ → ℤ
gained p k a e =
    if entry a e == 0 then pos 0
    else (if k == 5 then (if is_new_room p a e then negsuc 0 else pos 0)
    else gain p k e (entry a e - 1))

abbrev pub measure : Facts → ℕ → List ℕ → ℤ
measure p k a = sum_below (gained p k a) (length a)

-- the six measures
abbrev pub measures : Facts → List ℕ → List ℤ
measures p a = measure p 1 a ∷ measure p 2 a ∷ measure p 3 a ∷ measure p 4 a ∷ measure p 5 a ∷ measure p 6 a ∷ []

abbrev pub differ_at : List ℤ → List ℤ → ℕ → Bool
differ_at a b k = not (int_eq (slice_index_or a k (pos 0)) (slice_index_or b k (pos 0)))

-- a and b agree below the level, and a is greater at it; level k stands at place k - 1
abbrev pub is_better : ℕ → List ℤ → List ℤ → Bool
is_better level a b =
    not (any_below (differ_at a b) (level - 1)) && int_lt (slice_index_or b (level - 1) (pos 0)) (slice_index_or a (level - 1) (pos 0))

-- b has the measures of a below k
abbrev pub SameBelow : Facts → ℕ → List ℕ → List ℕ → Type 0
SameBelow p k a b = (j : ℕ) → 1 ≤ j → j < k → measure p j b ≡ measure p j a

-- a is legal, and no legal choice with the same measures below does better in one of the first n
pub record IsBest (p : Facts) (n : ℕ) (a : List ℕ) : Type 0 where
  pub legal : IsLegal p a
  pub none_better : (k : ℕ) → 1 ≤ k → k ≤ n → (b : List ℕ) → IsLegal p b → SameBelow p k a b → measure p k b ≤ℤ measure p k a
