-- Multipliers of rows as the terms of a leaf, and what they have in common.
use Rattle.std.specs.Prelude.{ℕ, ℤ, pos, ◌≡◌, ◌<◌, ◌*ℤ◌, unsigned_abs, if◌then◌else◌, List, [], ◌∷◌, ◌++◌, length, take, drop}
use Rattle.std.specs.Int.{◌∣◌}
use Rattle.std.specs.Ordering.{int_eq}
use Rattle.duality.specs.declared.row.RowName.{RowName}
use Rattle.duality.specs.declared.row.Term.{Term}
use Rattle.exact_simplex.specs.Task.{int_at}

-- ---- terms

-- a row and its multiplier before other terms; a multiplier 0 is left out
abbrev pub with_term : RowName → ℤ → List Term → List Term
with_term name times rest = if int_eq times (pos 0) then rest else ((record { row = name; times = times }) ∷ rest)

-- the rows with their multipliers
abbrev pub terms_of : List RowName → List ℤ → List Term
terms_of [] times = []
terms_of (name ∷ names) [] = []
terms_of (name ∷ names) (y ∷ ys) = with_term name y (terms_of names ys)

-- The terms in the order of a leaf, where so many base rows stand first, behind them so many level rows, and
-- then so many base rows and cuts: the level rows go behind these.
abbrev pub leaf_terms : ℕ → ℕ → ℕ → List RowName → List ℤ → List Term
leaf_terms lead low others names times =
    terms_of (take lead names) (take lead times)
    ++ terms_of (take others (drop low (drop lead names))) (take others (drop low (drop lead times)))
    ++ terms_of (take low (drop lead names)) (take low (drop lead times))
    ++ terms_of (drop others (drop low (drop lead names))) (drop others (drop low (drop lead times)))

-- ---- common divisors

-- it divides the scale and the first n of the numbers
pub record Divides (d : ℕ) (scale : ℤ) (numbers : List ℤ) (n : ℕ) : Type 0 where
  pub of_scale : d ∣ unsigned_abs scale
  pub each : (i : ℕ) → i < n → d ∣ unsigned_abs (int_at numbers i)

-- the greatest of these
pub record IsGreatest (d : ℕ) (scale : ℤ) (numbers : List ℤ) (n : ℕ) : Type 0 where
  pub divides : Divides d scale numbers n
  pub most : (e : ℕ) → Divides e scale numbers n → e ∣ d

-- the numbers, each divided by the divisor
pub record AreParts (divisor : ℤ) (parts numbers : List ℤ) : Type 0 where
  pub one_each : length parts ≡ length numbers
  pub each : (i : ℕ) → i < length numbers → int_at parts i *ℤ divisor ≡ int_at numbers i
