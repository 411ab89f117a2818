-- Tables that a problem keeps beside its parts, so that what is asked of it is looked up.
use Rattle.std.specs.Prelude.{ℕ, ℤ, Bool, ◌≡◌, ◌+◌, ◌*◌, ◌<◌, List, length, slice_index_or}
use Rattle.problem_core.specs.Facts.{Facts, admits, is_closed}
use Rattle.problem_core.specs.Measures.{points_of}
use Rattle.problem_core.specs.Courses.{IsCourseTable}

-- a table of rows one after the other, each of as many cells as there are columns
pub record IsGrid {A : Type 0} (cells : List A) (rows columns : ℕ) (f : ℕ → ℕ → A) : Type 0 where
  pub whole : length cells ≡ rows * columns
  pub cell : (r c : ℕ) (d : A) → r < rows → c < columns → slice_index_or cells (r * columns + c) d ≡ f r c

-- by course and room, whether the room admits the course; by room and slot, whether it is closed; by
-- course and room, the points
pub record AreTables (p : Facts) (sizes order places : List ℕ) (admitted closed : List Bool) (points : List ℤ) : Type 0 where
  pub courses : IsCourseTable p (length p.events) sizes order places
  pub admitted_is : IsGrid admitted (length p.students) (length p.capacity) (admits p)
  pub closed_is : IsGrid closed (length p.capacity) p.slots (is_closed p)
  pub points_are : IsGrid points (length p.students) (length p.capacity) (λ c r. points_of c r p.prefer)
