-- The nodes of a tree as they are made, one after the other: what is left to be proved behind them.
use Rattle.std.specs.Prelude.{ℕ, ◌&&◌, zero, suc, Bool, true, false, Option, Some, None, List, [], ◌∷◌, take}
use Rattle.duality.specs.declared.leaf.Node.{Node}
use Rattle.duality.specs.declared.leaf.Node.TheVariants.{Branch, Leaf as Closing, OpenEnd, Same}
use Rattle.duality.specs.Packing.{Packing, Weights, Stage, Fixing}
use Rattle.duality.specs.Tree.{with_zero, with_one, nothing_fixed, can_branch, ends_at}

-- what is to be proved after a node: a branch has two parts, any other node ends its part
abbrev pub after_node : Fixing → List Fixing → Node → List Fixing
after_node f fs (Branch p) = with_zero p f ∷ (with_one p f ∷ fs)
after_node f fs (Closing leaf) = fs
after_node f fs OpenEnd = fs
after_node f fs (Same leaf) = fs

abbrev pub after : List Fixing → List Node → List Fixing
after fs [] = fs
after [] (n ∷ ns) = []
after (f ∷ fs) (n ∷ ns) = after (after_node f fs n) ns

-- a branch on a free pattern, or a leaf that closes; of an open end nothing is asked
abbrev pub is_right : Packing → Weights → Stage → Fixing → Node → Bool
is_right k w s f (Branch p) = can_branch k f p
is_right k w s f (Closing leaf) = ends_at k w s f leaf
is_right k w s f OpenEnd = true
is_right k w s f (Same leaf) = false

-- each node is right where it comes, and none comes where nothing is left
abbrev pub are_right : Packing → Weights → Stage → List Fixing → List Node → Bool
are_right k w s fs [] = true
are_right k w s [] (n ∷ ns) = false
are_right k w s (f ∷ fs) (n ∷ ns) = is_right k w s f n && are_right k w s (after_node f fs n) ns

abbrev pub is_open : Node → Bool
is_open (Branch p) = false
is_open (Closing leaf) = false
is_open OpenEnd = true
is_open (Same leaf) = false

abbrev pub first_of : List Fixing → Option Fixing
first_of [] = None
first_of (f ∷ fs) = Some f

-- the fixing at a place of the tree
abbrev pub fixing_at : List Node → ℕ → Option Fixing
fixing_at ns i = first_of (after (nothing_fixed ∷ []) (take i ns))

abbrev pub open_ends : ℕ → List Node
open_ends zero = []
open_ends (suc n) = OpenEnd ∷ open_ends n
