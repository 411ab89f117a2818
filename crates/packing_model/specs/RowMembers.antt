-- Of which patterns of a list each base row is, as bits.
use Rattle.std.specs.Prelude.{ℕ, ◌≡◌, ◌<◌, ◌/◌, ◌%◌, true, List, [], length, slice_index, slice_index_or}
use Rattle.std.specs.Int.{bit_at}
use Rattle.duality.specs.Packing.{Packing}
use Rattle.duality.specs.declared.row.Run.{Run}
use Rattle.packing_model.specs.NodeMarks.{in_run, in_runs}

-- bit j of a row of words of 64 bits each
abbrev pub bit_in : List ℕ → ℕ → ℕ
bit_in words j = bit_at (slice_index words (j / 64)) (j % 64)

-- only bits of patterns are set that stand in the row
pub record AreMembers (k : Packing) (patterns : List ℕ) (rows : List (List ℕ)) : Type 0 where
  pub whole : length rows ≡ k.base_len
  pub each : (r j : ℕ) → r < k.base_len → bit_in (slice_index_or rows r []) j ≡ 1 → (j < length patterns) × (k.in_base r (slice_index patterns j) ≡ true)

-- a row of the run has the bit
pub record HasMember (rows : List (List ℕ)) (run : Run) (j : ℕ) : Type 0 where
  pub row : ℕ
  pub within : in_run run row ≡ true
  pub set : bit_in (slice_index_or rows row []) j ≡ 1

-- a row of the runs has the bit
pub record MeetsMember (rows : List (List ℕ)) (runs : List Run) (j : ℕ) : Type 0 where
  pub row : ℕ
  pub within : in_runs runs row ≡ true
  pub set : bit_in (slice_index_or rows row []) j ≡ 1
