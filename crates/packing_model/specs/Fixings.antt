-- Lists of fixed patterns.
use Rattle.std.specs.Prelude.{ℕ, ◌-◌, List, length, take}

-- the list but for its last element; the empty list stays
abbrev pub without_last : List ℕ → List ℕ
without_last xs = take (length xs - 1) xs
