-- A tree that grows: the nodes so far, the path to the next, and the choice that is held.
use Rattle.std.specs.Prelude.{ℕ, ℤ, pos, ◌≡◌, ◌<◌, ◌+◌, ◌-◌, ◌*◌, ◌-ℤ◌, ◌^◌, true, false, unsigned_abs, Option, Some, None, List, [], ◌∷◌, ◌++◌, length, take}
use Rattle.std.specs.List.{list_any, All}
use Rattle.problem_core.specs.Facts.{Facts}
use Rattle.duality.specs.declared.leaf.Leaf.{Leaf}
use Rattle.duality.specs.declared.leaf.Node.{Node}
use Rattle.duality.specs.declared.leaf.Node.TheVariants.{Branch, Leaf as Closing, OpenEnd, Same}
use Rattle.duality.specs.Packing.{Packing, Weights, Fixing}
use Rattle.duality.specs.Tree.{nothing_fixed}
use Rattle.duality.specs.Walk.{fixing_of, pending_of, turn}
use Rattle.packing_model.specs.Built.{packing}
use Rattle.packing_model.specs.Cuts.{IsPoolOf}
use Rattle.packing_model.specs.Nodes.{stage_at}
use Rattle.duality.specs.Stages.{IsUp}
use Rattle.duality.specs.After.{after, are_right, is_open}
use Rattle.duality.specs.Units.{branch_count}
use Rattle.search_nodes.specs.Paths.{path_of, IsWalk}
use Rattle.search_nodes.specs.Leaves.{IsFineLeaf}
use Rattle.search_nodes.specs.Choices.{IsHeld, weighs}
use Rattle.node_bound.specs.Bounds.{has_free}
use Rattle.branch_tree.specs.Turns.{TurnsTo}
use Rattle.branch_tree.specs.declared.level.Held.{Held}
use Rattle.branch_tree.specs.declared.state.Growth.{Growth}
use Rattle.branch_tree.specs.declared.state.Step.{Step}
use Rattle.branch_tree.specs.declared.state.Step.TheVariants.{On, Proved, Spent}

abbrev pub value_of : Option Held → Option ℤ
value_of None = None
value_of (Some h) = Some h.value

-- the choice has the targets, and its value is what it weighs
abbrev pub IsHeldAt : Facts → Weights → ℕ → List ℤ → Option Held → Type 0
IsHeldAt p w level targets None = Unit {0}
IsHeldAt p w level targets (Some h) = IsHeld p w level targets h.choice.entries × (h.value ≡ weighs p w level h.choice.entries)

-- a search names no earlier leaf
abbrev pub IsFineNode : Node → Type 0
IsFineNode (Branch p) = Unit {0}
IsFineNode (Closing leaf) = IsFineLeaf leaf
IsFineNode OpenEnd = Unit {0}
IsFineNode (Same leaf) = ⊥

-- the nodes are right, and this is left to be proved behind them
pub record IsGrown (p : Facts) (w : Weights) (level : ℕ) (targets : List ℤ) (pool : List (List ℕ)) (left : List Fixing) (nodes : List Node) (held : Option Held) : Type 0 where
  pub right : are_right (packing p) w (stage_at level targets (value_of held) pool) (nothing_fixed ∷ []) nodes ≡ true
  pub behind : after (nothing_fixed ∷ []) nodes ≡ left
  pub closed : list_any is_open nodes ≡ false
  pub fine : All IsFineNode nodes
  pub held_is : IsHeldAt p w level targets held
  pub pool_is : IsPoolOf (packing p) pool

-- and the walk stands at the next of it
pub record IsGrowth (p : Facts) (w : Weights) (level : ℕ) (targets : List ℤ) (pool : List (List ℕ)) (g : Growth) : Type 0 where
  pub grown : IsGrown p w level targets pool (pending_of (path_of g.walk.path)) g.nodes g.held
  pub walk : IsWalk (packing p) g.walk

-- how far a value may still rise
abbrev pub value_room : Option ℤ → ℕ
value_room None = 2 * 10 ^ 12 + 1
value_room (Some v) = unsigned_abs (pos (10 ^ 12) -ℤ v)

-- what is left to do: it falls at each step
abbrev pub room : Growth → ℕ → ℕ → ℕ
room g cuts budget = 2 * budget + length (pending_of (path_of g.walk.path)) + value_room (value_of g.held) + (1000 - cuts)

-- a leaf more, and the walk at the next node, if there is one
pub record IsClosing (g g' : Growth) (leaf : Leaf) (step : Step) : Type 0 where
  pub nodes : g'.nodes ≡ g.nodes ++ Closing leaf ∷ []
  pub held : g'.held ≡ g.held
  pub walk : (k : Packing) → IsWalk k g.walk → IsWalk k g'.walk
  pub turned : TurnsTo (turn (path_of g.walk.path)) (path_of g'.walk.path) step

-- what holds of each step: the value doesn't fall, each branch is paid for, and cuts are only added
pub record Goes (held held' : Option Held) (nodes nodes' : List Node) (pool pool' : List (List ℕ)) (budget budget' : ℕ) : Type 0 where
  pub up : IsUp (value_of held) (value_of held')
  pub paid : branch_count nodes' + budget' ≡ branch_count nodes + budget
  pub kept : take (length pool) pool' ≡ pool

-- what a step comes to: there is less to do; or the tree is whole; or the budget is spent at a node with a
-- free pattern
abbrev pub Comes : Facts → Weights → ℕ → List ℤ → Growth → Growth → List (List ℕ) → List (List ℕ) → ℕ → ℕ → Step → Type 0
Comes p w level targets g g' pool pool' budget budget' On = IsGrowth p w level targets pool' g' × (room g' (length pool') budget' < room g (length pool) budget)
Comes p w level targets g g' pool pool' budget budget' Proved = IsGrown p w level targets pool' [] g'.nodes g'.held
Comes p w level targets g g' pool pool' budget budget' Spent = IsGrowth p w level targets pool' g' × (budget' ≡ 0) × (has_free (packing p) (fixing_of (path_of g'.walk.path)) ≡ true)

pub record IsStep (p : Facts) (w : Weights) (level : ℕ) (targets : List ℤ) (g g' : Growth) (pool pool' : List (List ℕ)) (budget budget' : ℕ) (step : Step) : Type 0 where
  pub goes : Goes g.held g'.held g.nodes g'.nodes pool pool' budget budget'
  pub comes : Comes p w level targets g g' pool pool' budget budget' step
