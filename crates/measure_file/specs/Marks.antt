-- Tables of marks, by which what was given before is found.
use Rattle.std.specs.Prelude.{ℕ, ℤ, ◌≡◌, ◌+◌, ◌*◌, ◌<◌, ◌==◌, ◌&&◌, Bool, true, false, nat_lt, List, length, slice_index_or}
use Rattle.std.specs.List.{list_all, list_any}

-- no number below n is marked
pub record IsUnmarked (n : ℕ) (marks : List Bool) : Type 0 where
  pub count : length marks ≡ n
  pub each : (k : ℕ) → k < length marks → slice_index_or marks k false ≡ false

-- the marked numbers below n are those that a row has
pub record AreMarks {A : Type 0} (n : ℕ) (number : A → ℕ) (rows : List A) (marks : List Bool) : Type 0 where
  pub count : length marks ≡ n
  pub each : (k : ℕ) → k < length marks → slice_index_or marks k false ≡ list_any (λ x. number x == k) rows

-- the place of a course and a room, of at most 1000 courses and 200 rooms
abbrev pub pair_place : ℕ × ℕ × ℤ → ℕ
pair_place x = x.0 * 200 + x.1

abbrev pub has_place : ℕ × ℕ × ℤ → Bool
has_place x = nat_lt x.0 1000 && nat_lt x.1 200

pub record ArePreferred (rows : List (ℕ × ℕ × ℤ)) (marks : List Bool) : Type 0 where
  pub placed : list_all has_place rows ≡ true
  pub marked : AreMarks 200000 pair_place rows marks

abbrev pub course_place : ℕ × ℕ → ℕ
course_place x = x.0
