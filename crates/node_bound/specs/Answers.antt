-- What the answers of a node's linear program say at the node.
use Rattle.std.specs.Prelude.{ℕ, ℤ, pos, ◌≡◌, ◌<◌, ◌≤◌, ◌≤ℤ◌, ◌<ℤ◌, ◌+ℤ◌, ◌*ℤ◌, true, false, Option, Some, None, List, ◌∷◌, length}
use Rattle.numbers.specs.Sums.{member}
use Rattle.duality.specs.Packing.{Packing, Weights, Stage, Fixing, as_number, cut_at, target_of, is_free}
use Rattle.packing_model.specs.declared.point.Point.{Point}
use Rattle.search_nodes.specs.Points.{IsPointOf, ReachesFloor, entry_of, sum_at}
use Rattle.exact_simplex.specs.declared.task.Lp.{Lp}
use Rattle.exact_simplex.specs.Task.{AreSmall, Meets, IsMultiplier, int_at, row_at, row_sum, column_sum}

-- ---- answers of the linear program

-- a point that meets the rows
pub record IsFeasible (lp : Lp) (x : List ℤ) (xden : ℤ) : Type 0 where
  pub one_each : length x ≡ lp.columns
  pub small : AreSmall (xden ∷ x)
  pub positive : pos 0 <ℤ xden
  pub sign : (j : ℕ) → j < lp.columns → pos 0 ≤ℤ int_at x j
  pub rows : (i : ℕ) → i < length lp.rows → Meets (row_at lp i).kind (row_sum lp i x) ((row_at lp i).side *ℤ xden)

-- multipliers that cover the gain
pub record IsCover (lp : Lp) (y : List ℤ) (yden : ℤ) : Type 0 where
  pub one_each : length y ≡ length lp.rows
  pub small : AreSmall (yden ∷ y)
  pub positive : pos 0 <ℤ yden
  pub sign : (i : ℕ) → i < length lp.rows → IsMultiplier (row_at lp i).kind (int_at y i)
  pub covers : (j : ℕ) → j < lp.columns → (int_at lp.gain j *ℤ yden) ≤ℤ column_sum lp j y

-- what the multipliers are worth, with the patterns that are taken, leaves room for a better value
abbrev pub LeavesRoom : Option ℤ → ℤ → ℤ → ℤ → Type 0
LeavesRoom None yden worth taken = Unit {0}
LeavesRoom (Some v) yden worth taken = (yden *ℤ (v +ℤ pos 1)) ≤ℤ (worth +ℤ (yden *ℤ taken))

-- ---- points at the node

-- a point that meets every row of the node, whatever it weighs
pub record IsNodePoint (k : Packing) (w : Weights) (s : Stage) (f : Fixing) (x : Point) : Type 0 where
  pub point : IsPointOf k x
  pub taken : (p : ℕ) → member p f.one ≡ true → entry_of x.entries p ≡ x.den
  pub none : (p : ℕ) → p < k.count → member p f.one ≡ false → is_free k f p ≡ false → entry_of x.entries p ≡ pos 0
  pub base : (r : ℕ) → r < k.base_len → sum_at k (λ p. as_number (k.in_base r p)) x ≤ℤ x.den
  pub cuts : (c : ℕ) → c < length s.cuts → sum_at k (λ p. as_number (member p (cut_at s c))) x ≤ℤ x.den
  pub targets : (j : ℕ) → 1 ≤ j → j < s.level → sum_at k (w.weight j) x ≡ x.den *ℤ target_of s.targets j
  pub floor : ReachesFloor k w.floor x
