-- Marks of a fixing by pattern and by base row, and of the patterns of a cut by base row.
use Rattle.std.specs.Prelude.{ℕ, ◌≡◌, ◌+◌, ◌&&◌, nat_le, nat_lt, Bool, true, false, List, length, slice_index_or}
use Rattle.std.specs.List.{list_any}
use Rattle.numbers.specs.Sums.{member}
use Rattle.duality.specs.Packing.{Packing}
use Rattle.duality.specs.Runs.{rows_in}
use Rattle.duality.specs.Sums.{member_row}
use Rattle.duality.specs.declared.row.Run.{Run}
use Rattle.duality.specs.declared.row.RowName.TheVariants.{Base}
use Rattle.packing_model.specs.declared.fixing.Fixing.{Fixing}
use Rattle.packing_model.specs.declared.node_marks.NodeMarks.{NodeMarks}

-- the mark at a place; past the end there is none
abbrev pub mark_at : List Bool → ℕ → Bool
mark_at marks i = slice_index_or marks i false

-- only places that pass the test are marked
pub record OnlyMarks (test : ℕ → Bool) (marks : List Bool) : Type 0 where
  pub each : (i : ℕ) → mark_at marks i ≡ true → test i ≡ true

-- the base row is in the run
abbrev pub in_run : Run → ℕ → Bool
in_run run r = nat_le run.first r && nat_lt r (run.first + run.count)

-- the base row is one of the rows of the runs
abbrev pub in_runs : List Run → ℕ → Bool
in_runs runs r = member_row (Base r) (rows_in runs)

-- one of the patterns stands in the base row
abbrev pub has_one_of : Packing → List ℕ → ℕ → Bool
has_one_of k patterns r = list_any (k.in_base r) patterns

-- only patterns are marked that are left out, and only rows in which a pattern stands that is taken
pub record AreNodeMarks (k : Packing) (fixing : Fixing) (marks : NodeMarks) : Type 0 where
  pub whole : length marks.left_out.now ≡ k.count
  pub left_out : OnlyMarks (λ p. member p fixing.zero) marks.left_out.now
  pub filled : OnlyMarks (has_one_of k fixing.one) marks.filled

-- a marked row that is in the run
pub record MeetsRun (filled : List Bool) (run : Run) : Type 0 where
  pub row : ℕ
  pub within : in_run run row ≡ true
  pub marked : mark_at filled row ≡ true

-- a marked row that is one of the rows of the runs
pub record MeetsRuns (filled : List Bool) (runs : List Run) : Type 0 where
  pub row : ℕ
  pub within : in_runs runs row ≡ true
  pub marked : mark_at filled row ≡ true
