-- Pieces of a text for each number below another.
use Rattle.std.specs.Prelude.{ℕ, zero, suc, List, [], ◌++◌}

-- the pieces of 0, 1, .. below the number, in this order
abbrev pub each_below : (ℕ → List ℕ) → ℕ → List ℕ
each_below piece zero = []
each_below piece (suc n) = each_below piece n ++ piece n
