-- Runs of base rows, and the rows that they stand for.
use Rattle.std.specs.Prelude.{ℕ, ◌+◌, ◌≤◌, zero, suc, List, [], ◌∷◌, ◌++◌}
use Rattle.std.specs.List.{AllByRecursion}
use Rattle.duality.specs.declared.row.Run.{Run}
use Rattle.duality.specs.declared.row.RowName.{RowName}
use Rattle.duality.specs.declared.row.RowName.TheVariants.{Base}

-- n base rows from number r on
abbrev pub rows_from : ℕ → ℕ → List RowName
rows_from r zero = []
rows_from r (suc n) = Base r ∷ rows_from (r + 1) n

-- the rows of the runs, one run after the other
abbrev pub rows_in : List Run → List RowName
rows_in [] = []
rows_in (r ∷ rs) = rows_from r.first r.count ++ rows_in rs

-- all rows of the runs have numbers below n
abbrev pub AreBelow : ℕ → List Run → Type 0
AreBelow n runs = AllByRecursion (λ r. r.first + r.count ≤ n) runs
