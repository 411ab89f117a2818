-- For each pattern the rows of its cuts, as a pool keeps them.
use Rattle.std.specs.Prelude.{ℕ, ◌≡◌, if◌then◌else◌, Bool, List, [], ◌∷◌, ◌++◌, map, length, slice_index_or}
use Rattle.numbers.specs.Sums.{member}
use Rattle.problem_core.specs.Courses.{passing}
use Rattle.duality.specs.declared.row.RowName.{RowName}
use Rattle.duality.specs.declared.row.RowName.TheVariants.{Cut}

-- the rows of the pattern; past the end it stands in no cut
abbrev pub rows_at : List (List RowName) → ℕ → List RowName
rows_at table i = slice_index_or table i []

-- the pattern stands in the cut
abbrev pub in_cut : List (List ℕ) → ℕ → ℕ → Bool
in_cut cuts i c = member i (slice_index_or cuts c [])

-- each pattern has the rows of exactly its cuts, in rising order
pub record IsCutTable (cuts : List (List ℕ)) (table : List (List RowName)) : Type 0 where
  pub rows : (i : ℕ) → rows_at table i ≡ map Cut (passing (in_cut cuts i) (length cuts))

-- what a cut adds to the rows of a pattern
abbrev pub added_row : ℕ → Bool → List RowName
added_row number stands = if stands then Cut number ∷ [] else []

-- each of these patterns has one row more
pub record Adds (number : ℕ) (patterns : List ℕ) (old new : List (List RowName)) : Type 0 where
  pub rows : (i : ℕ) → rows_at new i ≡ rows_at old i ++ added_row number (member i patterns)

pub record AreSameRows (old new : List (List RowName)) : Type 0 where
  pub rows : (i : ℕ) → rows_at new i ≡ rows_at old i
