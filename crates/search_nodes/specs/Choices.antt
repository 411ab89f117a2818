-- Choices of rooms at a level of an objective.
use Rattle.std.specs.Prelude.{ℕ, ℤ, ◌≡◌, ◌≤◌, ◌<◌, ◌<ℤ◌, true, Option, Some, None, List}
use Rattle.numbers.specs.Sums.{value}
use Rattle.problem_core.specs.Facts.{Facts}
use Rattle.problem_core.specs.Choice.{IsLegal}
use Rattle.duality.specs.Packing.{Weights, target_of, meets_floor}
use Rattle.packing_model.specs.Built.{packing}
use Rattle.packing_model.specs.Closing.{choice_of}

-- what the patterns that the choice chooses weigh at the level
abbrev pub weighs : Facts → Weights → ℕ → List ℕ → ℤ
weighs p w j a = value (choice_of p a) (w.weight j) (packing p).count

-- a legal choice that has the targets below the level and reaches the floor
pub record IsHeld (p : Facts) (w : Weights) (level : ℕ) (targets : List ℤ) (a : List ℕ) : Type 0 where
  pub legal : IsLegal p a
  pub targets_met : (j : ℕ) → 1 ≤ j → j < level → weighs p w j a ≡ target_of targets j
  pub floor : meets_floor (packing p) (choice_of p a) w.floor ≡ true

-- more than the best value, where there is one
abbrev pub IsMore : Option ℤ → ℤ → Type 0
IsMore None x = Unit {0}
IsMore (Some v) x = v <ℤ x
