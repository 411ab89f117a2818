-- The patterns that are taken, where they are all that is left.
use Rattle.std.specs.Prelude.{ℕ, ℤ, pos, negsuc, ◌≡◌, ◌≤◌, ◌<ℤ◌, ◌*ℤ◌, ◌⊎◌, int_le, Bool, true, false, Option, Some, None, List, length}
use Rattle.problem_core.specs.Facts.{Facts}
use Rattle.meeting_patterns.specs.Pattern.{patterns_of}
use Rattle.duality.specs.declared.row.Term.{Term}
use Rattle.duality.specs.Packing.{Packing, Weights, Stage, Fixing, is_there, has_sign}
use Rattle.packing_model.specs.Built.{packing}
use Rattle.packing_model.specs.Nodes.{IsValidFixing, AreTargets}
use Rattle.packing_model.specs.declared.fixing.Fixing.{Fixing as Fixed}
use Rattle.node_bound.specs.Duals.{side_left}

-- they miss the row: 1 or -1 times what is left of its side is negative
pub record IsMiss (k : Packing) (w : Weights) (s : Stage) (f : Fixing) (t : Term) : Type 0 where
  pub there : is_there k w s t.row ≡ true
  pub sign : has_sign t.row t.times ≡ true
  pub one : (t.times ≡ pos 1) ⊎ (t.times ≡ negsuc 0)
  pub short : (t.times *ℤ side_left k w s f t.row) <ℤ pos 0

-- a node at a level of an objective over the patterns, with few of them taken
pub record IsNode (p : Facts) (count levels level : ℕ) (targets : List ℤ) (f : Fixed) : Type 0 where
  pub counted : count ≡ length (patterns_of p)
  pub few_levels : levels ≤ 7
  pub high : level ≤ levels
  pub targets_are : AreTargets level targets
  pub fixing : IsValidFixing (packing p) f
  pub few : length f.one ≤ 4000

-- there is a best value, and it is no less
abbrev pub is_at_most : ℤ → Option ℤ → Bool
is_at_most x None = false
is_at_most x (Some v) = int_le x v
