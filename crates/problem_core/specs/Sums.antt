-- The six sums that are kept while events are gone over.
use Rattle.std.specs.Prelude.{ℕ, pos, ◌≡◌, List}
use Rattle.numbers.specs.Sums.{sum_below}
use Rattle.problem_core.specs.Facts.{Facts}
use Rattle.problem_core.specs.Measures.{gained}
use Rattle.problem_core.specs.Kept.{IsWithin}
use Rattle.problem_core.specs.declared.measures.Sums.{Sums}

pub record AreWithin (bound : ℕ) (s : Sums) : Type 0 where
  pub hours : IsWithin (pos bound) s.hours
  pub students : IsWithin (pos bound) s.students
  pub utilisation : IsWithin (pos bound) s.utilisation
  pub preference : IsWithin (pos bound) s.preference
  pub rooms : IsWithin (pos bound) s.rooms
  pub robustness : IsWithin (pos bound) s.robustness

-- what event e adds
pub record AreGains (p : Facts) (a : List ℕ) (e : ℕ) (s : Sums) : Type 0 where
  pub hours : s.hours ≡ gained p 1 a e
  pub students : s.students ≡ gained p 2 a e
  pub utilisation : s.utilisation ≡ gained p 3 a e
  pub preference : s.preference ≡ gained p 4 a e
  pub rooms : s.rooms ≡ gained p 5 a e
  pub robustness : s.robustness ≡ gained p 6 a e

-- what the first n events add
pub record AreSums (p : Facts) (a : List ℕ) (n : ℕ) (s : Sums) : Type 0 where
  pub hours : s.hours ≡ sum_below (gained p 1 a) n
  pub students : s.students ≡ sum_below (gained p 2 a) n
  pub utilisation : s.utilisation ≡ sum_below (gained p 3 a) n
  pub preference : s.preference ≡ sum_below (gained p 4 a) n
  pub rooms : s.rooms ≡ sum_below (gained p 5 a) n
  pub robustness : s.robustness ≡ sum_below (gained p 6 a) n
