-- A path says which fixings are still to be proved.
use Rattle.std.proofs.Common.{ℕ, ◌≡◌, refl, ap, Bool, true, false, ◌&&◌, List, [], ◌∷◌}
use Rattle.duality.specs.declared.leaf.Leaf.{Leaf}
use Rattle.duality.specs.declared.leaf.Node.{Node}
use Rattle.duality.specs.declared.leaf.Node.TheVariants.{Branch, Leaf as Closing}
use Rattle.duality.specs.Packing.{Packing, Weights, Stage}
use Rattle.duality.specs.Tree.{can_branch, ends_at, proves_all}
use Rattle.duality.specs.Walk.{Step, step_at, fixing_of, later, pending_of, turn, pending}

pub later-turn : (path : List Step) → later path ≡ pending (turn path)
later-turn [] = refl
later-turn (b ∷ path) = go b.pattern b.inside (later-turn path)
  where
    go : (p : ℕ) (side : Bool) → later path ≡ pending (turn path) → later (step_at p side ∷ path) ≡ pending (turn (step_at p side ∷ path))
    go p true e = e
    go p false e = refl

-- a branch: the path grows
pub walk_branch : (k : Packing) (w : Weights) (s : Stage) (path : List Step) (p : ℕ) (ns : List Node)
    → proves_all k w s (pending_of path) (Branch p ∷ ns) ≡ (can_branch k (fixing_of path) p && proves_all k w s (pending_of (step_at p false ∷ path)) ns)
walk_branch k w s path p ns = refl

-- a leaf: the path turns
pub walk_leaf : (k : Packing) (w : Weights) (s : Stage) (path : List Step) (leaf : Leaf) (ns : List Node)
    → proves_all k w s (pending_of path) (Closing leaf ∷ ns) ≡ (ends_at k w s (fixing_of path) leaf && proves_all k w s (pending (turn path)) ns)
walk_leaf k w s path leaf ns = ap (λ fs. ends_at k w s (fixing_of path) leaf && proves_all k w s fs ns) (later-turn path)
