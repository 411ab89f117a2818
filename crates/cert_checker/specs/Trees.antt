-- Nodes of a tree: their bounds, and the path behind them.
use Rattle.std.specs.Prelude.{pos, ◌≡◌, ◌≤ℤ◌, ◌^◌, true, false, List, ◌∷◌}
use Rattle.duality.specs.Sums.{rises, are_small, is_small}
use Rattle.duality.specs.Walk.{Step, step_at, turn}
use Rattle.duality.specs.declared.leaf.Leaf.{Leaf}
use Rattle.duality.specs.declared.leaf.Node.{Node as SearchNode}
use Rattle.duality.specs.declared.leaf.Node.TheVariants.{Branch, Leaf as Closing, OpenEnd, Same}
use Rattle.search_nodes.specs.Paths.{IsTurned}

-- the scale is not negative, the rows stand in order, each once, and no number is above 10^24 in size
pub record IsLeafWithin (leaf : Leaf) : Type 0 where
  pub scale : pos 0 ≤ℤ leaf.scale
  pub small_scale : is_small (10 ^ 24) leaf.scale ≡ true
  pub rising : rises leaf.terms ≡ true
  pub small : are_small leaf.terms ≡ true

-- only leaves have bounds; whether a branch's pattern is there is judged. None names an earlier leaf: it is judged
-- as that leaf
abbrev pub IsNodeWithin : SearchNode → Type 0
IsNodeWithin (Branch p) = Unit {0}
IsNodeWithin (Closing leaf) = IsLeafWithin leaf
IsNodeWithin OpenEnd = Unit {0}
IsNodeWithin (Same leaf) = ⊥

abbrev pub NodeAfter : SearchNode → List Step → List Step → Type 0
NodeAfter (Branch p) old new = new ≡ step_at p false ∷ old
NodeAfter (Closing leaf) old new = IsTurned (turn old) new
NodeAfter OpenEnd old new = new ≡ old
NodeAfter (Same leaf) old new = new ≡ old
