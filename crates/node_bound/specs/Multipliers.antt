-- A leaf made of multipliers of the rows of a node's linear program.
use Rattle.std.specs.Prelude.{ℕ, ℤ, pos, ◌≡◌, ◌<◌, ◌+◌, ◌-◌, ◌<ℤ◌, ◌≤ℤ◌, ◌*ℤ◌, List, length}
use Rattle.duality.specs.declared.leaf.Leaf.{Leaf}
use Rattle.duality.specs.Packing.{Packing, Stage}
use Rattle.exact_simplex.specs.declared.task.Lp.{Lp}
use Rattle.exact_simplex.specs.Task.{IsMultiplier, int_at, row_at, column_sum}
use Rattle.node_bound.specs.declared.task.NodeTask.{NodeTask}
use Rattle.node_bound.specs.Terms.{leaf_terms, Divides, AreParts}

-- the base rows that do not stand first, and the cuts
abbrev pub others_of : Packing → Stage → ℕ → ℕ
others_of k s lead = (k.base_len - lead) + length s.cuts

-- The scale and the multipliers, divided by their greatest common divisor; the rows in the order of a leaf, and
-- those of multiplier 0 left out.
pub record IsLeafOf (k : Packing) (s : Stage) (t : NodeTask) (scale : ℤ) (times : List ℤ) (leaf : Leaf) : Type 0 where
  pub divisor : ℤ
  pub parts : List ℤ
  pub positive : pos 0 <ℤ divisor
  pub scale_is : leaf.scale *ℤ divisor ≡ scale
  pub parts_are : AreParts divisor parts times
  pub terms_are : leaf.terms ≡ leaf_terms t.lead t.low (others_of k s t.lead) t.names parts
  pub lowest : (e : ℕ) → Divides e leaf.scale parts (length parts) → e ≡ 1

-- multipliers of the rows that cover the gain, times the scale
pub record AreMultipliers (lp : Lp) (scale : ℤ) (times : List ℤ) : Type 0 where
  pub one_each : length times ≡ length lp.rows
  pub not_negative : pos 0 ≤ℤ scale
  pub sign : (i : ℕ) → i < length lp.rows → IsMultiplier (row_at lp i).kind (int_at times i)
  pub covers : (j : ℕ) → j < lp.columns → (int_at lp.gain j *ℤ scale) ≤ℤ column_sum lp j times
