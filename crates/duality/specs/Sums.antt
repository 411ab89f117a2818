-- The sums of a leaf as they are computed: a row's multiplier, what the rows of a pattern cost, and the
-- level rows apart.
use Rattle.std.specs.Prelude.{ℕ, ℤ, pos, ◌≡◌, ◌<◌, ◌≤◌, ◌≤ℤ◌, ◌+◌, ◌-ℤ◌, ◌*ℤ◌, ◌^◌, ◌==◌, ◌&&◌, ◌||◌, not, Bool, true, false, nat_lt, nat_le, if◌then◌else◌, unsigned_abs, Option, Some, None, List, [], ◌∷◌, length, slice_index_or}
use Rattle.std.specs.List.{list_all, AllByRecursion}
use Rattle.numbers.specs.Sums.{total, picked, sum_below, member}
use Rattle.duality.specs.declared.row.RowName.{RowName}
use Rattle.duality.specs.declared.row.RowName.TheVariants.{Base, Cut, Level}
use Rattle.duality.specs.declared.row.Run.{Run}
use Rattle.duality.specs.declared.row.Term.{Term}
use Rattle.duality.specs.declared.objective.Weighed.{Weighed}
use Rattle.duality.specs.declared.objective.Weighed.TheVariants.{Floor, Level as AtLevel}
use Rattle.duality.specs.Packing.{Packing, Weights, Stage, coefficient, cut_at, floor_weight, floor_level}

abbrev pub same_row : RowName → RowName → Bool
same_row (Base a) (Base b) = a == b
same_row (Cut a) (Cut b) = a == b
same_row (Level a) (Level b) = a == b
same_row a b = false

-- base rows before cuts before level rows, and by number
abbrev pub row_before : RowName → RowName → Bool
row_before (Base a) (Base b) = nat_lt a b
row_before (Base a) (Cut b) = true
row_before (Base a) (Level b) = true
row_before (Cut a) (Base b) = false
row_before (Cut a) (Cut b) = nat_lt a b
row_before (Cut a) (Level b) = true
row_before (Level a) (Base b) = false
row_before (Level a) (Cut b) = false
row_before (Level a) (Level b) = nat_lt a b

abbrev pub rises_from : RowName → List Term → Bool
rises_from r [] = true
rises_from r (t ∷ ts) = row_before r t.row && rises_from t.row ts

-- the rows of the terms are in strict order
abbrev pub rises : List Term → Bool
rises [] = true
rises (t ∷ ts) = rises_from t.row ts

-- the size of a number is at most the bound
abbrev pub is_small : ℕ → ℤ → Bool
is_small bound z = nat_le (unsigned_abs z) bound

abbrev pub are_small : List Term → Bool
are_small terms = list_all (λ t. is_small (10 ^ 24) t.times) terms

pub record IsWithin (bound : ℕ) (z : ℤ) : Type 0 where
  pub low : (pos 0 -ℤ pos bound) ≤ℤ z
  pub high : z ≤ℤ pos bound

-- the multiplier of a row, 0 where it has none
abbrev pub times_of : List Term → RowName → ℤ
times_of terms r = total (λ t. picked (same_row r t.row) t.times) terms

abbrev pub is_clique : RowName → Bool
is_clique (Base r) = true
is_clique (Cut c) = true
is_clique (Level j) = false

-- the multipliers of "at most" rows with the right side 1
abbrev pub clique_worth : List Term → ℤ
clique_worth terms = total (λ t. picked (is_clique t.row) t.times) terms

-- what the base rows and cuts among the terms cost a pattern
abbrev pub clique_priced : Packing → Weights → Stage → List Term → ℕ → ℤ
clique_priced k w s terms p = total (λ t. picked (is_clique t.row) (t.times *ℤ coefficient k w s t.row p)) terms

-- the seven level rows, the floor's the last, each with a number
abbrev pub level_sum : List Term → (ℕ → ℤ) → ℤ
level_sum terms f = sum_below (λ i. times_of terms (Level (i + 1)) *ℤ f (i + 1)) 7

-- what is added up over patterns: the weights of a level, or the coefficients of the floor's row
abbrev pub weighed : Weights → Weighed → ℕ → ℤ
weighed w (AtLevel j) p = w.weight j p
weighed w Floor p = pos 0 -ℤ floor_weight w.floor p

-- a level of the objective, or the floor
abbrev pub IsLevelOf : ℕ → Weighed → Type 0
IsLevelOf levels (AtLevel j) = (1 ≤ j) × (j ≤ levels)
IsLevelOf levels Floor = Unit {0}

-- ---- the rows of a pattern

abbrev pub member_row : RowName → List RowName → Bool
member_row r [] = false
member_row r (q ∷ qs) = same_row q r || member_row r qs

abbrev pub distinct_rows : List RowName → Bool
distinct_rows [] = true
distinct_rows (q ∷ qs) = not (member_row q qs) && distinct_rows qs

-- exactly the base rows and cuts that the pattern stands in, each once
pub record AreRowsOf (k : Packing) (s : Stage) (rows : List RowName) (p : ℕ) : Type 0 where
  pub differ : distinct_rows rows ≡ true
  pub base : (r : ℕ) → r < k.base_len → member_row (Base r) rows ≡ k.in_base r p
  pub cut : (c : ℕ) → c < length s.cuts → member_row (Cut c) rows ≡ member p (cut_at s c)
  pub level : (j : ℕ) → member_row (Level j) rows ≡ false

abbrev pub no_term : Term
no_term = record { row = Base 0; times = pos 0 }

-- the multipliers of the level rows 1 to 7, each of them at most 10^24 in size
pub record AreLevelTimes (terms : List Term) (times : List ℤ) : Type 0 where
  pub seven : length times ≡ 7
  pub each : (i : ℕ) → i < 7 → slice_index_or times i (pos 0) ≡ times_of terms (Level (i + 1))
  pub small : (i : ℕ) → i < 7 → IsWithin (10 ^ 24) (slice_index_or times i (pos 0))

-- no level row above the levels but the floor's has a multiplier
pub record AreOfLevels (levels : ℕ) (times : List ℤ) : Type 0 where
  pub none : (i : ℕ) → i < 6 → levels ≤ i → slice_index_or times i (pos 0) ≡ pos 0

abbrev pub weighed_at : ℕ → Weighed
weighed_at j = if j == floor_level then Floor else AtLevel j

-- level rows that have multipliers have targets, but for the floor's
pub record HaveTargets (times targets : List ℤ) : Type 0 where
  pub some : (i : ℕ) → i < 6 → length targets ≤ i → slice_index_or times i (pos 0) ≡ pos 0
  pub small : (i : ℕ) → i < length targets → IsWithin (10 ^ 12) (slice_index_or targets i (pos 0))

-- each entry of the table is what the multipliers of the base rows below its number sum to
pub record AreRowSums (terms : List Term) (below : List ℤ) : Type 0 where
  pub each : (r : ℕ) → r < length below → slice_index_or below r (pos 0) ≡ sum_below (λ i. times_of terms (Base i)) r
  pub small : (r : ℕ) → r < length below → IsWithin (10 ^ 24) (times_of terms (Base r))

-- each run ends below the last entry of a table of so many entries, or at it
abbrev pub AreInTable : ℕ → List Run → Type 0
AreInTable entries runs = AllByRecursion (λ r. r.first + r.count < entries) runs

-- a best value, where there is one, is at most 10^12 in size
abbrev pub IsValue : Option ℤ → Type 0
IsValue None = Unit {0}
IsValue (Some v) = IsWithin (10 ^ 12) v
