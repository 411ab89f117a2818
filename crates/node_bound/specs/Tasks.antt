-- The linear program of a node: a column a free pattern, a row a base row, cut, level row and floor.
use Rattle.std.specs.Prelude.{ℕ, suc, zero, ℤ, ◌≡◌, ◌<◌, ◌≤◌, ◌+◌, ◌-◌, ◌&&◌, ◌==◌, nat_lt, if◌then◌else◌, true, Option, Some, None, List, [], ◌∷◌, ◌++◌, map, length, slice_index_or}
use Rattle.numbers.specs.Sums.{member, distinct}
use Rattle.duality.specs.declared.row.RowName.{RowName}
use Rattle.duality.specs.declared.row.RowName.TheVariants.{Base, Cut, Level}
use Rattle.duality.specs.Packing.{Packing, Weights, Stage, Fixing, coefficient, is_free, floor_level}
use Rattle.duality.specs.Units.{free_count}
use Rattle.exact_simplex.specs.declared.task.RowKind.{RowKind}
use Rattle.exact_simplex.specs.declared.task.RowKind.TheVariants as kind
use Rattle.exact_simplex.specs.Task.{row_at, cell}
use Rattle.node_bound.specs.Duals.{side_left}
use Rattle.node_bound.specs.declared.task.NodeTask.{NodeTask}

-- ---- rows

-- so many names one after the other
abbrev pub stretch : (ℕ → RowName) → ℕ → ℕ → List RowName
stretch name from zero = []
stretch name from (suc n) = name from ∷ stretch name (suc from) n

abbrev pub floor_names : Option ((ℕ → ℤ) × ℤ) → List RowName
floor_names None = []
floor_names (Some floor) = Level floor_level ∷ []

-- The rows in the order of the task: the first base rows, the first level rows, the other base rows, the cuts,
-- the other level rows, the floor. Where the first ones end decides speed alone.
abbrev pub names_of : Packing → Weights → Stage → ℕ → ℕ → List RowName
names_of k w s lead low =
    stretch Base 0 lead ++ stretch Level 1 low ++ stretch Base lead (k.base_len - lead) ++ stretch Cut 0 (length s.cuts)
    ++ stretch Level (low + 1) ((s.level - 1) - low) ++ floor_names w.floor

-- the same rows in the order of a leaf
abbrev pub leaf_names_of : Packing → Weights → Stage → ℕ → ℕ → List RowName
leaf_names_of k w s lead low =
    stretch Base 0 lead ++ stretch Base lead (k.base_len - lead) ++ stretch Cut 0 (length s.cuts)
    ++ stretch Level 1 low ++ stretch Level (low + 1) ((s.level - 1) - low) ++ floor_names w.floor

abbrev pub name_at : List RowName → ℕ → RowName
name_at names i = slice_index_or names i (Base 0)

-- a level's row is an equation, every other row is not
abbrev pub kind_of : RowName → RowKind
kind_of (Base r) = kind.AtMost
kind_of (Cut c) = kind.AtMost
kind_of (Level j) = if j == floor_level then kind.AtMost else kind.Equal

-- ---- columns

-- the free patterns, each once, in some order
pub record AreColumns (k : Packing) (f : Fixing) (columns : List ℕ) : Type 0 where
  pub differ : distinct columns ≡ true
  pub are : (p : ℕ) → member p columns ≡ (nat_lt p k.count && is_free k f p)
  pub count : length columns ≡ free_count k f

abbrev pub column_at : List ℕ → ℕ → ℕ
column_at columns j = slice_index_or columns j 0

-- ---- the task

pub record IsNodeTask (k : Packing) (w : Weights) (s : Stage) (f : Fixing) (t : NodeTask) : Type 0 where
  pub columns : AreColumns k f t.columns
  pub lead : t.lead ≤ k.base_len
  pub low : t.low ≤ s.level - 1
  pub names : t.names ≡ names_of k w s t.lead t.low
  pub row_count : length t.lp.rows ≡ length t.names
  pub column_count : t.lp.columns ≡ length t.columns
  pub gain : t.lp.gain ≡ map (w.weight s.level) t.columns
  pub kinds : (i : ℕ) → i < length t.names → (row_at t.lp i).kind ≡ kind_of (name_at t.names i)
  pub sides : (i : ℕ) → i < length t.names → (row_at t.lp i).side ≡ side_left k w s f (name_at t.names i)
  pub cells : (i j : ℕ) → i < length t.names → j < length t.columns → cell t.lp i j ≡ coefficient k w s (name_at t.names i) (column_at t.columns j)
