-- The choice that a list of patterns makes.
use Rattle.std.specs.Prelude.{ℕ, ◌≡◌, ◌+◌, ◌<◌, false, if◌then◌else◌, List, [], ◌∷◌, length, slice_index}
use Rattle.problem_core.specs.Facts.{Facts}
use Rattle.problem_core.specs.Choice.{entry}
use Rattle.meeting_patterns.specs.Pattern.{within, pattern_at, clash}
use Rattle.meeting_patterns.specs.declared.pattern.Pattern.{Pattern}

-- the entry of event e: the room of the first pattern of the list that holds it, + 1; else 0
abbrev pub made : Facts → List Pattern → List ℕ → ℕ → ℕ
made p s [] e = 0
made p s (i ∷ list) e = if within p (pattern_at s i) e then (pattern_at s i).room + 1 else made p s list e

pub record IsMade (p : Facts) (s : List Pattern) (list a : List ℕ) : Type 0 where
  pub one_each : length a ≡ length p.events
  pub entries : (e : ℕ) → e < length p.events → entry a e ≡ made p s list e

-- different numbers of patterns that don't clash
pub record AreClashless (p : Facts) (s : List Pattern) (list : List ℕ) : Type 0 where
  pub known : (j : ℕ) → j < length list → slice_index list j < length s
  pub differ : (j k : ℕ) → j < k → k < length list → slice_index list j ≡ slice_index list k → ⊥
  pub apart : (j k : ℕ) → j < k → k < length list → clash p (pattern_at s (slice_index list j)) (pattern_at s (slice_index list k)) ≡ false
