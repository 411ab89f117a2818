-- Entries that are in range one by one are in range as a list.
use Rattle.std.proofs.Common.{ℕ, ℤ, pos, ◌<◌, ◌+◌, zero, suc, arith, List, [], ◌∷◌, length, get_or}
use Rattle.exact_simplex.specs.Task.{ColumnsBelow}

pub columns_below : (n : ℕ) (es : List (ℕ × ℤ)) → ((j : ℕ) → j < length es → (get_or es j (0, pos 0)).0 < n) → ColumnsBelow n es
columns_below n [] h = tt
columns_below n (e ∷ es) h = (h 0 (omega arith), columns_below n es (λ j l. h (suc j) (omega arith)))
