-- A tree that proves the bound of its level.
use Rattle.std.specs.Prelude.{ℕ, pos, ◌&&◌, nat_lt, int_le, Bool, true, false, List, [], ◌∷◌, ◌++◌}
use Rattle.duality.specs.declared.leaf.Leaf.{Leaf}
use Rattle.duality.specs.declared.leaf.Node.{Node}
use Rattle.duality.specs.declared.leaf.Node.TheVariants.{Branch, Leaf as Closing, OpenEnd, Same}
use Rattle.duality.specs.Packing.{Packing, Weights, Stage, Fixing, is_free}
use Rattle.duality.specs.Leaf.{closes}

-- a tree as it branches: the part with the pattern left out, then the part with it taken
pub data ProofTree : Type 0 where
  Fork : ℕ → ProofTree → ProofTree → ProofTree
  End : Leaf → ProofTree
  Open : ProofTree

abbrev pub with_zero : ℕ → Fixing → Fixing
with_zero p f = record { zero = f.zero ++ (p ∷ []); one = f.one }

abbrev pub with_one : ℕ → Fixing → Fixing
with_one p f = record { zero = f.zero; one = f.one ++ (p ∷ []) }

abbrev pub nothing_fixed : Fixing
nothing_fixed = record { zero = []; one = [] }

abbrev pub can_branch : Packing → Fixing → ℕ → Bool
can_branch k f p = nat_lt p k.count && is_free k f p

abbrev pub ends_at : Packing → Weights → Stage → Fixing → Leaf → Bool
ends_at k w s f leaf = int_le (pos 0) leaf.scale && closes k w s f leaf

-- by the tree
abbrev pub proves : Packing → Weights → Stage → Fixing → ProofTree → Bool
proves k w s f (Fork p low high) = can_branch k f p && (proves k w s (with_zero p f) low && proves k w s (with_one p f) high)
proves k w s f (End leaf) = ends_at k w s f leaf
proves k w s f Open = false

-- by the nodes in preorder, over the fixings that are still to be proved
abbrev pub proves_all : Packing → Weights → Stage → List Fixing → List Node → Bool
proves_all k w s [] [] = true
proves_all k w s (f ∷ fs) [] = false
proves_all k w s [] (n ∷ ns) = false
proves_all k w s (f ∷ fs) (Branch p ∷ ns) = can_branch k f p && proves_all k w s (with_zero p f ∷ (with_one p f ∷ fs)) ns
proves_all k w s (f ∷ fs) (Closing leaf ∷ ns) = ends_at k w s f leaf && proves_all k w s fs ns
proves_all k w s (f ∷ fs) (OpenEnd ∷ ns) = false
proves_all k w s (f ∷ fs) (Same leaf ∷ ns) = false

abbrev pub preorder : ProofTree → List Node
preorder (Fork p low high) = Branch p ∷ (preorder low ++ preorder high)
preorder (End leaf) = Closing leaf ∷ []
preorder Open = OpenEnd ∷ []

-- a list of nodes proves the level of its stage
abbrev pub proves_level : Packing → Weights → Stage → List Node → Bool
proves_level k w s nodes = proves_all k w s (nothing_fixed ∷ []) nodes
