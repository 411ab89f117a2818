-- Multipliers of rows over the free patterns of a node, and what they are worth where the patterns that are
-- taken are set.
use Rattle.std.specs.Prelude.{ℕ, ℤ, pos, ◌≡◌, ◌<◌, ◌≤ℤ◌, ◌<ℤ◌, ◌+ℤ◌, ◌-ℤ◌, ◌*ℤ◌, true, Option, Some, None, List}
use Rattle.std.specs.List.{list_all}
use Rattle.numbers.specs.Sums.{total}
use Rattle.duality.specs.declared.row.RowName.{RowName}
use Rattle.duality.specs.declared.row.Term.{Term}
use Rattle.duality.specs.Packing.{Packing, Weights, Stage, Fixing, coefficient, right_side, is_free}
use Rattle.duality.specs.Leaf.{term_fits}

-- what is left of a row's right side
abbrev pub side_left : Packing → Weights → Stage → Fixing → RowName → ℤ
side_left k w s f r = right_side w s r -ℤ total (coefficient k w s r) f.one

-- the multipliers cover the weight of each free pattern, scaled, and are worth this much
pub record IsDual (k : Packing) (w : Weights) (s : Stage) (f : Fixing) (scale : ℤ) (ys : List Term) (worth : ℤ) : Type 0 where
  pub not_negative : pos 0 ≤ℤ scale
  pub fits : list_all (term_fits k w s) ys ≡ true
  pub covers : (p : ℕ) → p < k.count → is_free k f p ≡ true → (scale *ℤ w.weight s.level p) ≤ℤ total (λ t. t.times *ℤ coefficient k w s t.row p) ys
  pub worth_is : total (λ t. t.times *ℤ side_left k w s f t.row) ys ≡ worth

-- the same multiplier for each row: in another order, and with or without zeros
pub record SameTimes (xs ys : List Term) : Type 0 where
  pub same : (g : RowName → ℤ) → total (λ t. t.times *ℤ g t.row) xs ≡ total (λ t. t.times *ℤ g t.row) ys

-- together with the patterns that are taken it is worth less than what is asked: one more than the best
-- value; where there is none, anything at all
abbrev pub IsShort : Option ℤ → ℤ → ℤ → ℤ → Type 0
IsShort (Some v) scale worth taken = (worth +ℤ (scale *ℤ taken)) <ℤ (scale *ℤ (v +ℤ pos 1))
IsShort None scale worth taken = (scale ≡ pos 0) × (worth <ℤ pos 0)
