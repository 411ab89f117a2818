-- Marks of the patterns of a fixing, and of the base rows that those which are taken fill.
use Rattle.std.specs.Prelude.{ℕ, ◌≡◌, ◌<◌, ◌≤◌, ◌+◌, zero, suc, Bool, true, false, List, length, slice_index_or}
use Rattle.numbers.specs.Sums.{member}
use Rattle.duality.specs.Packing.{Packing}
use Rattle.duality.specs.Runs.{rows_in}
use Rattle.duality.specs.Sums.{member_row}
use Rattle.duality.specs.declared.row.Run.{Run}
use Rattle.duality.specs.declared.row.RowName.TheVariants.{Base}
use Rattle.packing_model.specs.declared.fixing.Fixing.{Fixing}
use Rattle.search_nodes.specs.declared.marks.Marks.{Marks}

-- the mark at a place; past the end there is none
abbrev pub mark_at : List Bool → ℕ → Bool
mark_at marks i = slice_index_or marks i false

-- the pattern + 1 that fills the row, or 0
abbrev pub filler_at : List ℕ → ℕ → ℕ
filler_at fillers r = slice_index_or fillers r 0

-- the list reads the value at one place, and else as before
pub record SetsAt {A : Type 0} (filler : A) (at : ℕ) (value : A) (old new : List A) : Type 0 where
  pub here : slice_index_or new at filler ≡ value
  pub others : (i : ℕ) → (i ≡ at → ⊥) → slice_index_or new i filler ≡ slice_index_or old i filler

-- the base row is one of the rows of the runs
abbrev pub in_runs : List Run → ℕ → Bool
in_runs runs r = member_row (Base r) (rows_in runs)

-- the rows that pass the test are filled by the pattern, the others as before
pub record Fills (pattern : ℕ) (rows : ℕ → Bool) (old new : List ℕ) : Type 0 where
  pub filled : (r : ℕ) → rows r ≡ true → filler_at new r ≡ pattern + 1
  pub others : (r : ℕ) → rows r ≡ false → filler_at new r ≡ filler_at old r

-- the pattern of this number less 1 is marked as taken
abbrev pub is_taken : List Bool → ℕ → Bool
is_taken taken zero = false
is_taken taken (suc q) = mark_at taken q

-- a pattern that is taken fills the row
abbrev pub is_filled : Marks → ℕ → Bool
is_filled marks r = is_taken marks.taken.items (filler_at marks.fillers.items r)

-- the marks are those of the fixing; the rows are marked of the first patterns that are taken
pub record AreMarks (k : Packing) (fixing : Fixing) (marks : Marks) : Type 0 where
  pub left_out : (p : ℕ) → mark_at marks.left_out.items p ≡ member p fixing.zero
  pub taken : (p : ℕ) → mark_at marks.taken.items p ≡ member p fixing.one
  pub few : marks.count ≤ length fixing.one
  pub fillers : (r q : ℕ) → r < k.base_len → filler_at marks.fillers.items r ≡ q + 1 → k.in_base r q ≡ true
  pub rows : (i r : ℕ) → i < marks.count → r < k.base_len → k.in_base r (slice_index_or fixing.one i 0) ≡ true → filler_at marks.fillers.items r ≡ slice_index_or fixing.one i 0 + 1

-- the row of a pattern is filled
pub record MeetsRow (marks : Marks) (runs : List Run) : Type 0 where
  pub row : ℕ
  pub in_run : in_runs runs row ≡ true
  pub filled : is_filled marks row ≡ true
