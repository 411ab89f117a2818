-- What adding to a pool answers, and the cuts of a pattern.
use Rattle.std.specs.Prelude.{ℕ, ◌≡◌, ◌<◌, ◌≤◌, true, false, List, [], ◌∷◌, ◌++◌, length, slice_index_or, Result, Ok, Err}
use Rattle.numbers.specs.Sums.{member}
use Rattle.duality.specs.declared.row.RowName.{RowName}
use Rattle.duality.specs.declared.row.RowName.TheVariants.{Base, Cut, Level}
use Rattle.duality.specs.Sums.{member_row, distinct_rows}
use Rattle.packing_model.specs.declared.pool.PoolFault.{PoolFault}
use Rattle.packing_model.specs.declared.pool.PoolFault.TheVariants.{Full, Memory}

abbrev pub Adds : List ℕ → List (List ℕ) → List (List ℕ) → Result ℕ PoolFault → Type 0
Adds cut old new (Ok number) = (number ≡ length old) × (new ≡ old ++ cut ∷ []) × (length old < 1000)
Adds cut old new (Err Full) = (length old ≡ 1000) × (new ≡ old)
Adds cut old new (Err Memory) = (new ≡ old) × (length old < 1000)

-- exactly the cuts that the pattern stands in, each once
pub record AreCutRowsOf (cuts : List (List ℕ)) (rows : List RowName) (i : ℕ) : Type 0 where
  pub differ : distinct_rows rows ≡ true
  pub cut : (c : ℕ) → c < length cuts → member_row (Cut c) rows ≡ member i (slice_index_or cuts c [])
  pub base : (r : ℕ) → member_row (Base r) rows ≡ false
  pub level : (j : ℕ) → member_row (Level j) rows ≡ false
  pub few : length rows ≤ 1000
