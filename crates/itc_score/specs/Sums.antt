-- Counts and sums over the numbers below a bound, and over the pairs of a list.
use Rattle.std.specs.Prelude.{ℕ, Bool, ◌+◌, zero, suc, List, [], ◌∷◌, cond}
use Rattle.std.specs.List.{count_by}

-- the sum of f over the numbers below n
abbrev pub sum_below : (ℕ → ℕ) → ℕ → ℕ
sum_below f zero = 0
sum_below f (suc n) = sum_below f n + f n

-- how many of the numbers below n pass
abbrev pub count_below : (ℕ → Bool) → ℕ → ℕ
count_below test n = sum_below (λ k. cond (test k) 1 0) n

-- how many pairs of an element and a later one are related
abbrev pub count_pairs : {X : Type 0} → (X → X → Bool) → List X → ℕ
count_pairs related [] = 0
count_pairs related (x ∷ xs) = count_by (related x) xs + count_pairs related xs
