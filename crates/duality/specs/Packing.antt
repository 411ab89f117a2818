-- Patterns that clash, the rows over them, what a level counts, and what a choice of patterns must meet.
use Rattle.std.specs.Prelude.{ℕ, ℤ, pos, ◌≡◌, ◌≢◌, ◌<◌, ◌≤◌, ◌-◌, ◌-ℤ◌, ◌&&◌, ◌==◌, nat_le, nat_lt, int_le, if◌then◌else◌, Bool, true, false, not, Option, Some, None, is_some, List, [], length, slice_index_or}
use Rattle.std.specs.List.{list_all, list_any}
use Rattle.numbers.specs.Sums.{value, member, picked, distinct}
use Rattle.duality.specs.declared.row.RowName.{RowName}
use Rattle.duality.specs.declared.row.RowName.TheVariants.{Base, Cut, Level}

-- patterns are the numbers below count; a base row is a test on patterns
pub record Packing : Type 0 where
  pub count : ℕ
  pub clash : ℕ → ℕ → Bool
  pub base_len : ℕ
  pub in_base : ℕ → ℕ → Bool

-- what each level counts, and perhaps a floor: weights, and the number that they must reach
pub record Weights : Type 0 where
  pub weight : ℕ → ℕ → ℤ
  pub floor : Option ((ℕ → ℤ) × ℤ)

-- what stays the same in a whole tree: the level, the values of the levels below it, the best value so
-- far, which may be missing, and the cuts
pub record Stage : Type 0 where
  pub level : ℕ
  pub targets : List ℤ
  pub best : Option ℤ
  pub cuts : List (List ℕ)

-- patterns that are left out, and patterns that are taken
pub record Fixing : Type 0 where
  pub zero : List ℕ
  pub one : List ℕ

abbrev pub as_number : Bool → ℤ
as_number b = picked b (pos 1)

abbrev pub floor_weight : Option ((ℕ → ℤ) × ℤ) → ℕ → ℤ
floor_weight None p = pos 0
floor_weight (Some f) p = f.0 p

abbrev pub floor_number : Option ((ℕ → ℤ) × ℤ) → ℤ
floor_number None = pos 0
floor_number (Some f) = f.1

-- the level number of the floor's row
abbrev pub floor_level : ℕ
floor_level = 7

abbrev pub cut_at : Stage → ℕ → List ℕ
cut_at s c = slice_index_or s.cuts c []

abbrev pub target_of : List ℤ → ℕ → ℤ
target_of targets j = slice_index_or targets (j - 1) (pos 0)

-- the floor says "at least"; as a row it says "at most" of the negated weights
abbrev pub level_coefficient : Weights → ℕ → ℕ → ℤ
level_coefficient w j p = if j == floor_level then pos 0 -ℤ floor_weight w.floor p else w.weight j p

abbrev pub coefficient : Packing → Weights → Stage → RowName → ℕ → ℤ
coefficient k w s (Base r) p = as_number (k.in_base r p)
coefficient k w s (Cut c) p = as_number (member p (cut_at s c))
coefficient k w s (Level j) p = level_coefficient w j p

abbrev pub level_side : Weights → List ℤ → ℕ → ℤ
level_side w targets j = if j == floor_level then pos 0 -ℤ floor_number w.floor else target_of targets j

abbrev pub right_side : Weights → Stage → RowName → ℤ
right_side w s (Base r) = pos 1
right_side w s (Cut c) = pos 1
right_side w s (Level j) = level_side w s.targets j

-- the level rows of a level are those of the levels below it
abbrev pub is_there : Packing → Weights → Stage → RowName → Bool
is_there k w s (Base r) = nat_lt r k.base_len
is_there k w s (Cut c) = nat_lt c (length s.cuts)
is_there k w s (Level j) = if j == floor_level then is_some w.floor else nat_le 1 j && nat_lt j s.level

-- a multiplier on an "at most" row is not negative
abbrev pub has_sign : RowName → ℤ → Bool
has_sign (Base r) times = int_le (pos 0) times
has_sign (Cut c) times = int_le (pos 0) times
has_sign (Level j) times = if j == floor_level then int_le (pos 0) times else true

abbrev pub is_free : Packing → Fixing → ℕ → Bool
is_free k f p = not (member p f.zero) && (not (member p f.one) && not (list_any (k.clash p) f.one))

-- ---- what the rows rest on

-- base rows and cuts are sets of patterns that clash in pairs
pub record AreCliques (k : Packing) (cuts : List (List ℕ)) : Type 0 where
  pub base : (r p q : ℕ) → r < k.base_len → p < q → q < k.count → k.in_base r p ≡ true → k.in_base r q ≡ true → k.clash p q ≡ true
  pub cut : (c p q : ℕ) → c < length cuts → p < q → q < k.count → member p (slice_index_or cuts c []) ≡ true → member q (slice_index_or cuts c []) ≡ true → k.clash p q ≡ true

-- the patterns that are taken differ, and are patterns
pub record IsFixing (k : Packing) (f : Fixing) : Type 0 where
  pub differ : distinct f.one ≡ true
  pub known : list_all (λ p. nat_lt p k.count) f.one ≡ true

-- ---- a choice, as a test on patterns

-- no two patterns of the choice clash
pub record IsPacking (k : Packing) (has : ℕ → Bool) : Type 0 where
  pub apart : (p q : ℕ) → p < k.count → q < k.count → p ≢ q → has p ≡ true → has q ≡ true → k.clash p q ≡ false

abbrev pub meets_floor : Packing → (ℕ → Bool) → Option ((ℕ → ℤ) × ℤ) → Bool
meets_floor k has None = true
meets_floor k has (Some f) = int_le f.1 (value has f.0 k.count)

-- the choice weighs the targets at the levels below, and reaches the floor
pub record Meets (k : Packing) (w : Weights) (s : Stage) (has : ℕ → Bool) : Type 0 where
  pub targets : (j : ℕ) → 1 ≤ j → j < s.level → value has (w.weight j) k.count ≡ target_of s.targets j
  pub floor : meets_floor k has w.floor ≡ true

-- the choice holds all that is taken and nothing that is left out
pub record Follows (f : Fixing) (has : ℕ → Bool) : Type 0 where
  pub one : list_all has f.one ≡ true
  pub zero : list_any has f.zero ≡ false
