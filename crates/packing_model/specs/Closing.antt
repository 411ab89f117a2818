-- What a leaf that closes says of choices of patterns, and of choices of rooms.
use Rattle.std.specs.Prelude.{ℕ, ℤ, ◌≡◌, ◌<◌, ◌≤◌, Bool, List, Option}
use Rattle.numbers.specs.Sums.{value}
use Rattle.problem_core.specs.Facts.{Facts}
use Rattle.problem_core.specs.Measures.{measure}
use Rattle.meeting_patterns.specs.Pattern.{patterns_of, pattern_at, chooses}
use Rattle.duality.specs.Packing.{Packing, Weights, Stage, Fixing as Fixed, IsPacking, Meets, Follows, target_of}
use Rattle.duality.specs.Leaf.{IsCapped}

-- what an objective counts
abbrev pub counted : (ℕ → ℕ → ℤ) → Option ((ℕ → ℤ) × ℤ) → Weights
counted weight floor = record { weight = weight; floor = floor }

-- each choice of patterns that do not clash, that holds what is taken and nothing that is left out, and
-- that meets the targets and the floor, weighs at most the best value
abbrev pub Caps : Packing → Weights → Stage → Fixed → Type 0
Caps k w s f = (has : ℕ → Bool) → IsPacking k has → Meets k w s has → Follows f has → IsCapped s.best (value has (w.weight s.level) k.count)

-- there is no such choice
abbrev pub Empties : Packing → Weights → Stage → Fixed → Type 0
Empties k w s f = (has : ℕ → Bool) → IsPacking k has → Meets k w s has → Follows f has → ⊥

-- the patterns that the choice of rooms chooses, by number
abbrev pub choice_of : Facts → List ℕ → ℕ → Bool
choice_of p b i = chooses p b (pattern_at (patterns_of p) i)

-- the measures below the level are the targets
pub record HasTargets (p : Facts) (level : ℕ) (targets : List ℤ) (b : List ℕ) : Type 0 where
  pub each : (j : ℕ) → 1 ≤ j → j < level → measure p j b ≡ target_of targets j
