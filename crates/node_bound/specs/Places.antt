-- Where the rows of a node's task stand.
use Rattle.std.specs.Prelude.{ℕ, pos, ℤ, ◌≡◌, ◌≤◌, ◌+◌, ◌-◌, ◌&&◌, ◌==◌, nat_le, nat_lt, if◌then◌else◌, Bool, is_some, List, ◌++◌, length}
use Rattle.numbers.specs.Sums.{total, picked}
use Rattle.duality.specs.declared.row.RowName.{RowName}
use Rattle.duality.specs.declared.row.RowName.TheVariants.{Base, Cut, Level}
use Rattle.duality.specs.Packing.{Packing, Weights, Stage, floor_level, level_coefficient}
use Rattle.node_bound.specs.Tasks.{stretch}
use Rattle.node_bound.specs.declared.places.Places.{Places}

-- the row is one of the task's
abbrev pub is_placed : Places → RowName → Bool
is_placed v (Base r) = nat_lt r v.base
is_placed v (Cut c) = nat_lt c v.cuts
is_placed v (Level j) = if j == floor_level then v.has_floor else nat_le 1 j && nat_lt j v.level

abbrev pub base_place : Places → ℕ → ℕ
base_place v r = if nat_lt r v.lead then r else r + v.low

abbrev pub level_place : Places → ℕ → ℕ
level_place v j =
    if j == floor_level then v.base + v.cuts + (v.level - 1)
    else (if nat_le j v.low then v.lead + (j - 1) else v.base + v.cuts + (j - 1))

abbrev pub place_of : Places → RowName → ℕ
place_of v (Base r) = base_place v r
place_of v (Cut c) = v.base + v.low + c
place_of v (Level j) = level_place v j

abbrev pub floor_count : Bool → ℕ
floor_count has = if has then 1 else 0

-- the number of rows
abbrev pub row_count : Places → ℕ
row_count v = v.base + v.cuts + (v.level - 1) + floor_count v.has_floor

-- so many rows of one kind, one after the other
abbrev pub stretch_from : RowName → ℕ → List RowName
stretch_from (Base r) n = stretch Base r n
stretch_from (Cut c) n = stretch Cut c n
stretch_from (Level j) n = stretch Level j n

-- the row so many numbers on
abbrev pub later_row : RowName → ℕ → RowName
later_row (Base r) n = Base (r + n)
later_row (Cut c) n = Cut (c + n)
later_row (Level j) n = Level (j + n)

abbrev pub number_of_row : RowName → ℕ
number_of_row (Base r) = r
number_of_row (Cut c) = c
number_of_row (Level j) = j

-- the rows in the order of the task
abbrev pub names_in : Places → List RowName
names_in v =
    stretch Base 0 v.lead ++ stretch Level 1 v.low ++ stretch Base v.lead (v.base - v.lead) ++ stretch Cut 0 v.cuts
    ++ stretch Level (v.low + 1) ((v.level - 1) - v.low) ++ stretch Level floor_level (floor_count v.has_floor)

-- the level rows and the floor
abbrev pub level_names : Places → List RowName
level_names v = stretch Level 1 (v.level - 1) ++ stretch Level floor_level (floor_count v.has_floor)

-- the places fit together, and are few
pub record IsLayout (v : Places) : Type 0 where
  pub lead : v.lead ≤ v.base
  pub one : 1 ≤ v.level
  pub low : v.low ≤ v.level - 1
  pub few_base : v.base ≤ 4000
  pub few_cuts : v.cuts ≤ 1000
  pub few_levels : v.level ≤ 7

-- the places of the rows of a node
pub record AreOf (k : Packing) (w : Weights) (s : Stage) (v : Places) : Type 0 where
  pub layout : IsLayout v
  pub base : v.base ≡ k.base_len
  pub cuts : v.cuts ≡ length s.cuts
  pub level : v.level ≡ s.level
  pub has_floor : v.has_floor ≡ is_some w.floor

-- ---- numbers given to rows

-- the row has the place
abbrev pub hits : Places → ℕ → RowName → Bool
hits v x r = is_placed v r && (place_of v r == x)

-- what the rows give the place, each so much
abbrev pub put_total : Places → ℕ → (RowName → ℤ) → List RowName → ℤ
put_total v x g rows = total (λ r. picked (hits v x r) (g r)) rows

-- the number of a pattern in a row in which it stands
abbrev pub row_number : Weights → ℕ → RowName → ℤ
row_number w p (Base r) = pos 1
row_number w p (Cut c) = pos 1
row_number w p (Level j) = level_coefficient w j p
