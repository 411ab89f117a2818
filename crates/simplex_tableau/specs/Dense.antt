-- A list of numbers as a function of the place.
use Rattle.std.proofs.Common.{ℕ, ◌≡◌, ◌<◌, List, length, map}
use Rattle.exact_num.specs.Q.{ℚ}
use Rattle.exact_num.specs.Ops.{◌+ℚ◌, ◌*ℚ◌}
use Rattle.exact_num.specs.Sums.{entry_ℚ}
use Rattle.simplex_tableau.specs.declared.sparse.Entry.{Entry}
use Rattle.simplex_tableau.specs.Sparse.{at}

-- the number at place p, 0 past the end
abbrev pub num : {N : Type 0} → (N → ℚ) → List N → ℕ → ℚ
num value xs p = entry_ℚ (map value xs) p

-- a multiple of a sparse vector was added
abbrev pub Added : {N : Type 0} → (N → ℚ) → List N → ℚ → List (Entry N) → List N → Type 0
Added value xs factor source ys = (p : ℕ) → p < length xs → num value ys p ≡ num value xs p +ℚ factor *ℚ at value source p
