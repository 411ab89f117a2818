-- What the objectives of the worked cases owe: few levels and patterns, and small numbers.
use Rattle.std.proofs.Common.{arith}
use Rattle.std.proofs.lemmas.Int.{ints}
use Rattle.std.specs.Prelude.{ℕ, pos, ◌≤◌, ◌^◌}
use Rattle.duality.specs.Sums.{IsWithin}

pub one_level : 1 ≤ 7
one_level = omega arith

pub two_levels : 2 ≤ 7
two_levels = omega arith

pub one_pattern : 1 ≤ 200000
one_pattern = omega arith

pub level-within : (level : ℕ) → level ≤ 2 → IsWithin (10 ^ 9) (pos level)
level-within level high = record { low = omega (arith, ints); high = omega (arith, ints) }

pub weight-within : IsWithin (10 ^ 9) (pos 1)
weight-within = record { low = omega (arith, ints); high = omega (arith, ints) }

pub floor-within : (least : ℕ) → least ≤ 2 → IsWithin (10 ^ 12) (pos least)
floor-within least small = record { low = omega (arith, ints); high = omega (arith, ints) }
