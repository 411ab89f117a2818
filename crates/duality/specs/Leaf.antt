-- A leaf that closes, and the first fault of one that does not.
use Rattle.std.specs.Prelude.{ℕ, ℤ, pos, zero, suc, ◌≤ℤ◌, ◌+◌, ◌+ℤ◌, ◌-ℤ◌, ◌*ℤ◌, ◌&&◌, int_le, int_lt, if◌then◌else◌, Bool, not, Option, Some, None, List, [], ◌∷◌}
use Rattle.std.specs.List.{list_all}
use Rattle.std.specs.Option.{option_or}
use Rattle.numbers.specs.Sums.{total}
use Rattle.numbers.specs.Below.{any_below, first_from}
use Rattle.duality.specs.declared.row.Term.{Term}
use Rattle.duality.specs.declared.leaf.Leaf.{Leaf}
use Rattle.duality.specs.declared.leaf.LeafFault.{LeafFault}
use Rattle.duality.specs.declared.leaf.LeafFault.TheVariants.{Row, Sign, Cost, Bound}
use Rattle.duality.specs.Packing.{Packing, Weights, Stage, Fixing, coefficient, right_side, is_there, has_sign, is_free}

-- what the terms cost a pattern
abbrev pub priced : Packing → Weights → Stage → List Term → ℕ → ℤ
priced k w s terms p = total (λ t. t.times *ℤ coefficient k w s t.row p) terms

-- what the terms are worth on the right side
abbrev pub worth : Weights → Stage → List Term → ℤ
worth w s terms = total (λ t. t.times *ℤ right_side w s t.row) terms

-- the reduced cost of a pattern
abbrev pub reduced : Packing → Weights → Stage → Leaf → ℕ → ℤ
reduced k w s leaf p = (leaf.scale *ℤ w.weight s.level p) -ℤ priced k w s leaf.terms p

abbrev pub term_fits : Packing → Weights → Stage → Term → Bool
term_fits k w s t = is_there k w s t.row && has_sign t.row t.times

-- a free pattern of positive reduced cost
abbrev pub costs : Packing → Weights → Stage → Fixing → Leaf → ℕ → Bool
costs k w s f leaf p = is_free k f p && int_lt (pos 0) (reduced k w s leaf p)

abbrev pub left_side : Packing → Weights → Stage → Fixing → Leaf → ℤ
left_side k w s f leaf = worth w s leaf.terms +ℤ total (reduced k w s leaf) f.one

-- against a value, or against none
abbrev pub is_under : Option ℤ → ℤ → ℤ → Bool
is_under (Some v) scale left = int_lt left (scale *ℤ (v +ℤ pos 1))
is_under None scale left = int_le scale (pos 0) && int_lt left (pos 0)

abbrev pub closes : Packing → Weights → Stage → Fixing → Leaf → Bool
closes k w s f leaf =
    list_all (term_fits k w s) leaf.terms
    && (not (any_below (costs k w s f leaf) k.count) && is_under s.best leaf.scale (left_side k w s f leaf))

-- ---- the first fault

abbrev pub term_fault : Packing → Weights → Stage → ℕ → Term → Option LeafFault
term_fault k w s at t = if is_there k w s t.row then (if has_sign t.row t.times then None else Some (Sign at)) else Some (Row at)

-- the terms in their order, from number at on
abbrev pub terms_fault : Packing → Weights → Stage → ℕ → List Term → Option LeafFault
terms_fault k w s at [] = None
terms_fault k w s at (t ∷ ts) = option_or (term_fault k w s at t) (terms_fault k w s (at + 1) ts)

abbrev pub cost_at : ℕ → Option LeafFault
cost_at zero = None
cost_at (suc p) = Some (Cost p)

-- the lowest free pattern of positive reduced cost
abbrev pub cost_fault : Packing → Weights → Stage → Fixing → Leaf → Option LeafFault
cost_fault k w s f leaf = cost_at (first_from (costs k w s f leaf) 0 k.count)

abbrev pub bound_fault : Packing → Weights → Stage → Fixing → Leaf → Option LeafFault
bound_fault k w s f leaf = if is_under s.best leaf.scale (left_side k w s f leaf) then None else Some Bound

abbrev pub leaf_fault : Packing → Weights → Stage → Fixing → Leaf → Option LeafFault
leaf_fault k w s f leaf = option_or (terms_fault k w s 0 leaf.terms) (option_or (cost_fault k w s f leaf) (bound_fault k w s f leaf))

-- ---- what a closing leaf says

-- at most v; where there is no value, nothing at all
abbrev pub IsCapped : Option ℤ → ℤ → Type 0
IsCapped (Some v) x = x ≤ℤ v
IsCapped None x = ⊥
