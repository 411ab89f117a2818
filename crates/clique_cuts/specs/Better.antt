-- Choices that are better than the best value at a node.
use Rattle.std.specs.Prelude.{ℕ, ℤ, ◌≡◌, ◌≤◌, ◌<◌, ◌≤ℤ◌, nat_lt, int_lt, Bool, true, Option, Some, None, List, length}
use Rattle.std.specs.List.{list_all}
use Rattle.numbers.specs.Sums.{total}
use Rattle.problem_core.specs.Facts.{Facts}
use Rattle.duality.specs.Packing.{Weights, target_of}
use Rattle.packing_model.specs.Nodes.{AreTargets}
use Rattle.search_nodes.specs.Choices.{IsHeld, IsMore, weighs}

-- a legal choice that has the targets, reaches the floor, and weighs more than the best value at the level
pub record IsBetter (p : Facts) (w : Weights) (level : ℕ) (targets : List ℤ) (best : Option ℤ) (a : List ℕ) : Type 0 where
  pub held : IsHeld p w level targets a
  pub more : IsMore best (weighs p w level a)

-- ---- the same of the patterns that it chooses

-- a level of an objective, with the targets of those below
pub record IsLevel (levels level : ℕ) (targets : List ℤ) : Type 0 where
  pub high : level ≤ levels
  pub few_levels : levels ≤ 7
  pub targets_are : AreTargets level targets

-- at most 4,000 patterns of so many
pub record AreFew (count : ℕ) (list : List ℕ) : Type 0 where
  pub few : length list ≤ 4000
  pub known : list_all (λ p. nat_lt p count) list ≡ true

abbrev pub HasTargets : (ℕ → ℕ → ℤ) → ℕ → List ℤ → List ℕ → Type 0
HasTargets weight level targets list = (j : ℕ) → 1 ≤ j → j < level → total (weight j) list ≡ target_of targets j

abbrev pub ReachesFloor : Option ((ℕ → ℤ) × ℤ) → List ℕ → Type 0
ReachesFloor None list = Unit {0}
ReachesFloor (Some floor) list = floor.1 ≤ℤ total floor.0 list

abbrev pub is_over : ℤ → Option ℤ → Bool
is_over x None = true
is_over x (Some v) = int_lt v x

-- they have the targets of the levels below, and reach the floor
pub record MeetsAll (w : Weights) (level : ℕ) (targets : List ℤ) (list : List ℕ) : Type 0 where
  pub has_targets : HasTargets w.weight level targets list
  pub floor : ReachesFloor w.floor list
