-- What a point gives each pattern, and the entries that list it.
use Rattle.std.specs.Prelude.{ℕ, ℤ, pos, ◌≡◌, ◌<◌, ◌≤ℤ◌, ◌^◌, nat_lt, if◌then◌else◌, true, false, List, [], ◌∷◌, ◌++◌, map, length}
use Rattle.std.specs.List.{list_all}
use Rattle.std.specs.Ordering.{int_eq}
use Rattle.numbers.specs.Sums.{member}
use Rattle.packing_model.specs.Rising.{is_rising}
use Rattle.search_nodes.specs.Points.{entry_of, is_part}
use Rattle.exact_simplex.specs.Task.{int_at}
use Rattle.node_bound.specs.Tasks.{column_at}

-- at most 10^24 and not negative
pub record IsSmall (z : ℤ) : Type 0 where
  pub low : pos 0 ≤ℤ z
  pub high : z ≤ℤ pos (10 ^ 24)

-- the number of its column, or all of it where it is taken, or nothing
pub record AreAmounts (columns : List ℕ) (x : List ℤ) (one : List ℕ) (den : ℤ) (count : ℕ) (amounts : List ℤ) : Type 0 where
  pub one_each : length amounts ≡ count
  pub of_columns : (j : ℕ) → j < length columns → int_at amounts (column_at columns j) ≡ int_at x j
  pub taken : (p : ℕ) → member p one ≡ true → int_at amounts p ≡ den
  pub none : (p : ℕ) → member p columns ≡ false → member p one ≡ false → int_at amounts p ≡ pos 0

-- with an entry more, where the amount is not 0
abbrev pub with_entry : ℕ → ℤ → List (ℕ × ℤ) → List (ℕ × ℤ)
with_entry p x es = if int_eq x (pos 0) then es else es ++ (p, x) ∷ []

-- Entries of the patterns below n by rising pattern, which give each its amount. Where no amount is negative
-- or above the denominator, each entry is a part.
pub record IsListed (amount : ℕ → ℤ) (n : ℕ) (entries : List (ℕ × ℤ)) : Type 0 where
  pub rising : is_rising (map (λ (e : ℕ × ℤ). e.0) entries) ≡ true
  pub known : list_all (λ (e : ℕ × ℤ). nat_lt e.0 n) entries ≡ true
  pub gives : (p : ℕ) → p < n → entry_of entries p ≡ amount p
  pub parts : (den : ℤ) → ((p : ℕ) → p < n → (pos 0 ≤ℤ amount p) × (amount p ≤ℤ den)) → list_all (is_part den) entries ≡ true
