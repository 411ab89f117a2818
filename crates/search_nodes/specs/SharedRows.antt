-- Base rows that two patterns share.
use Rattle.std.specs.Prelude.{ℕ, ◌&&◌, Bool}
use Rattle.numbers.specs.Below.{any_below}
use Rattle.duality.specs.Packing.{Packing}

abbrev pub share_row : Packing → ℕ → ℕ → Bool
share_row k i j = any_below (λ r. k.in_base r i && k.in_base r j) k.base_len
