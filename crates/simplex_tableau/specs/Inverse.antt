-- The inverse of a basis, kept as sparse columns.
use Rattle.std.proofs.Common.{ℕ, ◌≡◌, ◌<◌, List, [], ◌∷◌, ◌++◌, length, get_or, drop, Option, Some, None}
use Rattle.exact_num.specs.Q.{ℚ}
use Rattle.exact_num.specs.Ops.{◌+ℚ◌, ◌*ℚ◌}
use Rattle.simplex_tableau.specs.declared.sparse.Entry.{Entry}
use Rattle.simplex_tableau.specs.Sparse.{at, Rises, dot_with}

-- list k, empty past the end
abbrev pub list_at : {E : Type 0} → List (List E) → ℕ → List E
list_at xs k = get_or xs k []

-- place p of column k
abbrev pub inv_of : {N : Type 0} → (N → ℚ) → List (List (Entry N)) → ℕ → ℕ → ℚ
inv_of value inverse k p = at value (list_at inverse k) p

abbrev pub AllRise : {N : Type 0} → ℕ → List (List (Entry N)) → Type 0
AllRise m inverse = (k : ℕ) → k < length inverse → Rises 0 m (list_at inverse k)

-- one entry more at the end
pub record HasMore {N : Type 0} (value : N → ℚ) (x : ℚ) (place : ℕ) (old new : List (Entry N)) : Type 0 where
  pub entry : Entry N
  pub at_place : entry.place ≡ place
  pub number_is : value entry.number ≡ x
  pub items : new ≡ old ++ entry ∷ []

-- made is the inverse times the column
pub record Makes {N : Type 0} (value : N → ℚ) (inverse : List (List (Entry N))) (column made : List (Entry N)) : Type 0 where
  pub sums : (p : ℕ) → at value made p ≡ dot_with value (λ k. inv_of value inverse k p) column
  pub rises : (m : ℕ) → AllRise m inverse → Rises 0 m made

-- row k is place p of column k, times u
pub record RowTimes {N : Type 0} (value : N → ℚ) (inverse : List (List (Entry N))) (p : ℕ) (u : ℚ) (row : List (Entry N)) : Type 0 where
  pub sums : (k : ℕ) → k < length inverse → at value row k ≡ inv_of value inverse k p *ℚ u
  pub rises : Rises 0 (length inverse) row

-- a row with what was found added behind the others, times u
abbrev pub IsShared : {N : Type 0} → (N → ℚ) → ℚ → ℕ → Option N → List (Entry N) → List (Entry N) → Type 0
IsShared value u place None old new = new ≡ old
IsShared value u place (Some x) old new = HasMore value (value x *ℚ u) place old new

pub record Turns {N : Type 0} (value : N → ℚ) (inverse : List (List (Entry N))) (row less : List (Entry N)) (inverse' : List (List (Entry N))) : Type 0 where
  pub same_length : length inverse' ≡ length inverse
  pub sums : (k p : ℕ) → k < length inverse → inv_of value inverse' k p ≡ inv_of value inverse k p +ℚ at value row k *ℚ at value less p
  pub rises : (m : ℕ) → AllRise m inverse → Rises 0 m less → AllRise m inverse'

pub record RowSoFar {N : Type 0} (value : N → ℚ) (inverse : List (List (Entry N))) (p : ℕ) (u : ℚ) (row : List (Entry N)) (k : ℕ) : Type 0 where
  pub sums : (j : ℕ) → j < k → at value row j ≡ inv_of value inverse j p *ℚ u
  pub rises : Rises 0 k row

pub record TurnsSoFar {N : Type 0} (value : N → ℚ) (inverse : List (List (Entry N))) (row less : List (Entry N)) (i : ℕ) (inverse' : List (List (Entry N))) : Type 0 where
  pub same_length : length inverse' ≡ length inverse
  pub sums : (k p : ℕ) → k < length inverse → inv_of value inverse' k p +ℚ at value (drop i row) k *ℚ at value less p ≡ inv_of value inverse k p +ℚ at value row k *ℚ at value less p
  pub rises : (m : ℕ) → AllRise m inverse → Rises 0 m less → AllRise m inverse'
