-- The odd part of a number, for the greatest common divisor by halving.
use Rattle.std.specs.Prelude.{ℕ, ◌≡◌, ◌*◌, ◌%◌, ◌^◌}
use Rattle.std.specs.Int.{w64, trailing_zeros}

pub record IsOddPart (n odd : ℕ) : Type 0 where
  pub is_odd : odd % 2 ≡ 1
  pub whole : 2 ^ trailing_zeros w64 n * odd ≡ n
