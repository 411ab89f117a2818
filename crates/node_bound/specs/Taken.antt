-- How many of some patterns stand in each row, and which patterns are left out.
use Rattle.std.specs.Prelude.{ℕ, ℤ, pos, ◌≡◌, ◌<◌, ◌≤◌, ◌+◌, ◌+ℤ◌, ◌==◌, Bool, true, false, List, length, slice_index_or}
use Rattle.std.specs.List.{list_all}
use Rattle.numbers.specs.Sums.{member, total, picked}
use Rattle.duality.specs.declared.row.RowName.{RowName}
use Rattle.duality.specs.Packing.{Packing, Weights, Stage, coefficient}
use Rattle.duality.specs.Sums.{is_clique}
use Rattle.node_bound.specs.Places.{is_placed, place_of, put_total, row_count}
use Rattle.node_bound.specs.declared.places.Places.{Places}

abbrev pub count_at : List ℕ → ℕ → ℕ
count_at counts x = slice_index_or counts x 0

abbrev pub as_one : RowName → ℤ
as_one r = pos 1

-- One more was counted at the place of each of some rows: with those that are left, each place has all that
-- it is to have.
pub record Counts (v : Places) (all left : List RowName) (old new : List ℕ) : Type 0 where
  pub same_length : length new ≡ length old
  pub counts : (x : ℕ) → x < length old → pos (count_at new x) +ℤ put_total v x as_one left ≡ pos (count_at old x) +ℤ put_total v x as_one all
  pub few : (x : ℕ) → x < length old → count_at new x + length left ≤ count_at old x + length all

-- the pattern's number in a base row or a cut; none in a level row
abbrev pub stands : Packing → Weights → Stage → RowName → ℕ → ℤ
stands k w s r p = picked (is_clique r) (coefficient k w s r p)

-- by place, how many of all patterns stand there, but for those that are left
pub record AreCounts (k : Packing) (w : Weights) (s : Stage) (v : Places) (all left : List ℕ) (counts : List ℕ) : Type 0 where
  pub one_each : length counts ≡ row_count v
  pub each : (r : RowName) → is_placed v r ≡ true → pos (count_at counts (place_of v r)) +ℤ total (stands k w s r) left ≡ total (stands k w s r) all

-- none of the patterns stands in the row
abbrev pub is_clear : Places → List ℕ → RowName → Bool
is_clear v counts r = count_at counts (place_of v r) == 0

abbrev pub are_clear : Places → List ℕ → List RowName → Bool
are_clear v counts rows = list_all (is_clear v counts) rows

-- by pattern, whether it is one of these
pub record AreMarks (ps : List ℕ) (count : ℕ) (marks : List Bool) : Type 0 where
  pub one_each : length marks ≡ count
  pub each : (p : ℕ) → p < count → slice_index_or marks p false ≡ member p ps
