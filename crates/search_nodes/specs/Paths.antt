-- The path to a node of a tree, and the fixing that it makes.
use Rattle.std.specs.Prelude.{ℕ, ◌≡◌, ◌&&◌, Bool, true, Option, Some, None, List, [], ◌∷◌}
use Rattle.duality.specs.Packing.{Packing}
use Rattle.duality.specs.Tree.{can_branch, with_zero, with_one}
use Rattle.duality.specs.Walk.{Step, step_at, fixing_of}
use Rattle.packing_model.specs.Nodes.{fixed_of}
use Rattle.search_nodes.specs.Marks.{AreMarks}
use Rattle.search_nodes.specs.declared.walk.Side.{Side}
use Rattle.search_nodes.specs.declared.walk.Walk.{Walk}

-- the sides before a path, the first of them at its far end
abbrev pub onto_path : List Step → List Side → List Step
onto_path path [] = path
onto_path path (b ∷ sides) = onto_path (step_at b.pattern b.inside ∷ path) sides

-- the path, its last branch first
abbrev pub path_of : List Side → List Step
path_of sides = onto_path [] sides

-- each branch is on a pattern that is free at its node
abbrev pub is_path : Packing → List Step → Bool
is_path k [] = true
is_path k (b ∷ path) = can_branch k (fixing_of path) b.pattern && is_path k path

pub record IsWalk (k : Packing) (walk : Walk) : Type 0 where
  pub fixing : fixed_of walk.fixing ≡ fixing_of (path_of walk.path)
  pub valid : is_path k (path_of walk.path) ≡ true
  pub marks : AreMarks k walk.fixing walk.marks

-- the path after a leaf; empty where the tree is at its end
abbrev pub IsTurned : Option (List Step) → List Step → Type 0
IsTurned None path = path ≡ []
IsTurned (Some turned) path = path ≡ turned

-- the path, and the fixing with one more pattern left out, which may be a branch there
pub record IsOutside (k : Packing) (p : ℕ) (walk : Walk) : Type 0 where
  pub fixing : fixed_of walk.fixing ≡ with_zero p (fixing_of (path_of walk.path))
  pub free : can_branch k (fixing_of (path_of walk.path)) p ≡ true
  pub valid : is_path k (path_of walk.path) ≡ true
  pub marks : AreMarks k walk.fixing walk.marks

-- the same with one more pattern taken
pub record IsInside (k : Packing) (p : ℕ) (walk : Walk) : Type 0 where
  pub fixing : fixed_of walk.fixing ≡ with_one p (fixing_of (path_of walk.path))
  pub free : can_branch k (fixing_of (path_of walk.path)) p ≡ true
  pub valid : is_path k (path_of walk.path) ≡ true
  pub marks : AreMarks k walk.fixing walk.marks
