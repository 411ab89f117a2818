-- How many branches a tree may have.
use Rattle.std.specs.Prelude.{ℕ, ◌+◌, ◌-◌, ◌^◌, suc, List, [], ◌∷◌}
use Rattle.numbers.specs.Counts.{count_below}
use Rattle.duality.specs.declared.leaf.Node.{Node}
use Rattle.duality.specs.declared.leaf.Node.TheVariants.{Branch, Leaf as Closing, OpenEnd, Same}
use Rattle.duality.specs.Packing.{Packing, Fixing, is_free}

-- how many patterns are free
abbrev pub free_count : Packing → Fixing → ℕ
free_count k f = count_below (is_free k f) k.count

abbrev pub branch_count : List Node → ℕ
branch_count [] = 0
branch_count (Branch p ∷ ns) = suc (branch_count ns)
branch_count (Closing leaf ∷ ns) = branch_count ns
branch_count (OpenEnd ∷ ns) = branch_count ns
branch_count (Same leaf ∷ ns) = branch_count ns

-- the most branches of one part with so many free patterns: each of its two parts has a free pattern fewer
abbrev pub most_branches : ℕ → ℕ
most_branches n = 2 ^ n - 1

-- the most branches that the parts can have together
abbrev pub most_units : Packing → List Fixing → ℕ
most_units k [] = 0
most_units k (f ∷ fs) = most_branches (free_count k f) + most_units k fs
