-- Numbers that are given to a column of a task, row by row.
use Rattle.std.specs.Prelude.{ℕ, ℤ, pos, ◌≡◌, ◌<◌, ◌+ℤ◌, ◌==◌, ◌≤◌, nat_lt, List, [], length}
use Rattle.std.proofs.Common.{get_or}
use Rattle.numbers.specs.Sums.{picked}
use Rattle.duality.specs.declared.row.RowName.{RowName}
use Rattle.duality.specs.Packing.{Packing, Weights, Stage, Fixing, coefficient}
use Rattle.exact_simplex.specs.declared.task.LpRow.{LpRow}
use Rattle.exact_simplex.specs.declared.task.RowKind.{RowKind}
use Rattle.exact_simplex.specs.Task.{ColumnsBelow, no_row, coefficient as number_in}
use Rattle.node_bound.specs.Duals.{side_left}
use Rattle.node_bound.specs.Tasks.{kind_of, name_at, column_at}

abbrev pub lp_row : List LpRow → ℕ → LpRow
lp_row rows x = get_or rows x no_row

abbrev pub empty_row : RowKind → ℤ → LpRow
empty_row kind side = record { kind = kind; entries = []; side = side }

-- the number at a row and a column
abbrev pub number_at : List LpRow → ℕ → ℕ → ℤ
number_at rows x j = number_in (lp_row rows x).entries j

abbrev pub AreInRange : ℕ → List LpRow → Type 0
AreInRange n rows = (x : ℕ) → x < length rows → ColumnsBelow n (lp_row rows x).entries

-- Some rows were given numbers at column c and nothing else was changed: with what is still left to give,
-- each place has all that it is to have.
pub record Gives (c : ℕ) (all left : ℕ → ℤ) (old new : List LpRow) : Type 0 where
  pub same_length : length new ≡ length old
  pub kinds : (x : ℕ) → (lp_row new x).kind ≡ (lp_row old x).kind
  pub sides : (x : ℕ) → (lp_row new x).side ≡ (lp_row old x).side
  pub numbers : (x j : ℕ) → x < length old → number_at new x j +ℤ picked (c == j) (left x) ≡ number_at old x j +ℤ picked (c == j) (all x)
  pub below : (n : ℕ) → c < n → AreInRange n old → AreInRange n new

abbrev pub nothing : ℕ → ℤ
nothing x = pos 0

-- rows as the first of the names say, without numbers
pub record AreEmptyRows (k : Packing) (w : Weights) (s : Stage) (f : Fixing) (names : List RowName) (n : ℕ) (rows : List LpRow) : Type 0 where
  pub one_each : length rows ≡ n
  pub kinds : (x : ℕ) → x < n → (lp_row rows x).kind ≡ kind_of (name_at names x)
  pub sides : (x : ℕ) → x < n → (lp_row rows x).side ≡ side_left k w s f (name_at names x)
  pub empty : (x : ℕ) → (lp_row rows x).entries ≡ []

-- the first columns have their numbers
pub record AreFilled (k : Packing) (w : Weights) (s : Stage) (names : List RowName) (columns : List ℕ) (n : ℕ) (old new : List LpRow) : Type 0 where
  pub same_length : length new ≡ length old
  pub kinds : (x : ℕ) → (lp_row new x).kind ≡ (lp_row old x).kind
  pub sides : (x : ℕ) → (lp_row new x).side ≡ (lp_row old x).side
  pub numbers : (x j : ℕ) → x < length names → number_at new x j ≡ picked (nat_lt j n) (coefficient k w s (name_at names x) (column_at columns j))
  pub below : (m : ℕ) → n ≤ m → AreInRange m new

-- rows with kinds, sides and numbers
pub record AreTaskRows (k : Packing) (w : Weights) (s : Stage) (f : Fixing) (names : List RowName) (columns : List ℕ) (rows : List LpRow) : Type 0 where
  pub one_each : length rows ≡ length names
  pub kinds : (x : ℕ) → x < length names → (lp_row rows x).kind ≡ kind_of (name_at names x)
  pub sides : (x : ℕ) → x < length names → (lp_row rows x).side ≡ side_left k w s f (name_at names x)
  pub numbers : (x j : ℕ) → x < length names → j < length columns → number_at rows x j ≡ coefficient k w s (name_at names x) (column_at columns j)
  pub below : AreInRange (length columns) rows
