-- The bounds on the measures of a model's patterns.
use Rattle.std.proofs.Common.{arith}
use Rattle.std.proofs.lemmas.Int.{ints}
use Rattle.std.specs.Prelude.{ℕ, pos, ◌<◌, ◌≤◌, ◌^◌, length}
use Rattle.problem_core.specs.Facts.{Facts}
use Rattle.meeting_patterns.specs.Pattern.{patterns_of}
use Rattle.duality.specs.Sums.{IsWithin}
use Rattle.packing_model.specs.Built.{measured}

-- at most 200,000 patterns, each weight of which is at most 10^9 in size
pub record HasSmallWeights (p : Facts) : Type 0 where
  pub few : length (patterns_of p) ≤ 200000
  pub each : (level pattern : ℕ) → 1 ≤ level → level ≤ 6 → pattern < length (patterns_of p) → IsWithin (10 ^ 9) ((measured p).weight level pattern)

-- ---- what an objective owes of the six measures, which have no floor

pub six_levels : 6 ≤ 7
six_levels = omega arith

pub none-within : (bound : ℕ) → IsWithin bound (pos 0)
none-within bound = record { low = omega (arith, ints); high = omega (arith, ints) }
