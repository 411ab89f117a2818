-- What growing a tree comes to.
use Rattle.std.specs.Prelude.{suc, ℕ, ℤ, ◌≡◌, ◌≤◌, ◌+◌, ◌-◌, ◌^◌, true, false, if◌then◌else◌, Bool, Option, List, [], ◌∷◌, length, take, slice_get, Some}
use Rattle.std.specs.List.{list_any, All}
use Rattle.problem_core.specs.Facts.{Facts}
use Rattle.duality.specs.declared.leaf.Node.{Node}
use Rattle.duality.specs.declared.leaf.Node.TheVariants.{OpenEnd}
use Rattle.duality.specs.Packing.{Packing, Weights, Stage, Fixing}
use Rattle.duality.specs.Tree.{nothing_fixed, proves_level}
use Rattle.duality.specs.After.{after, are_right, is_open, fixing_at}
use Rattle.duality.specs.Units.{branch_count}
use Rattle.packing_model.specs.Built.{packing}
use Rattle.packing_model.specs.Cuts.{IsPoolOf}
use Rattle.packing_model.specs.Nodes.{stage_at}
use Rattle.search_nodes.specs.declared.walk.Side.{Side}
use Rattle.node_bound.specs.Bounds.{has_free}
use Rattle.branch_tree.specs.Growths.{value_of, IsHeldAt, IsFineNode, Goes}
use Rattle.branch_tree.specs.Logs.{Beginning, IsLogged, IsStopped, moment, moment_after}
use Rattle.branch_tree.specs.declared.level.Held.{Held}
use Rattle.branch_tree.specs.declared.log.Log.{Log}
use Rattle.branch_tree.specs.declared.tree.TreeGrown.{TreeGrown}

-- a whole tree that proves its level; its nodes are right and leave nothing
pub record IsWhole (k : Packing) (w : Weights) (s : Stage) (nodes : List Node) : Type 0 where
  pub proves : proves_level k w s nodes ≡ true
  pub right : are_right k w s (nothing_fixed ∷ []) nodes ≡ true
  pub behind : after (nothing_fixed ∷ []) nodes ≡ []
  pub closed : list_any is_open nodes ≡ false
  pub few : branch_count nodes ≤ 2 ^ k.count - 1

-- the place of the first open end, and the fixing there, at which a pattern is free
pub record IsFirstOpen (k : Packing) (nodes : List Node) (place : ℕ) (fixing : Fixing) : Type 0 where
  pub node : slice_get nodes place ≡ Some OpenEnd
  pub before : list_any is_open (take place nodes) ≡ false
  pub here : fixing_at nodes place ≡ Some fixing
  pub free : has_free k fixing ≡ true

-- a tree with open ends: its nodes are right, and nothing is left behind them
pub record IsOpened (k : Packing) (w : Weights) (s : Stage) (nodes : List Node) : Type 0 where
  pub right : are_right k w s (nothing_fixed ∷ []) nodes ≡ true
  pub behind : after (nothing_fixed ∷ []) nodes ≡ []
  pub some_open : list_any is_open nodes ≡ true
  pub place : ℕ
  pub fixing : Fixing
  pub first : IsFirstOpen k nodes place fixing
  pub few : branch_count nodes + 1 ≤ 2 ^ k.count - 1

-- it is whole, or it has open ends and the budget is spent
abbrev pub Ends : Packing → Weights → Stage → List Node → ℕ → Bool → Type 0
Ends k w s nodes budget true = IsWhole k w s nodes
Ends k w s nodes budget false = IsOpened k w s nodes × (budget ≡ 0)

pub record Grows (p : Facts) (w : Weights) (level : ℕ) (targets : List ℤ) (held : Option Held) (pool pool' : List (List ℕ)) (budget budget' : ℕ) (grown : TreeGrown) : Type 0 where
  pub ends : Ends (packing p) w (stage_at level targets (value_of grown.held) pool') grown.nodes budget' grown.proved
  pub fine : All IsFineNode grown.nodes
  pub held_is : IsHeldAt p w level targets grown.held
  pub pool_is : IsPoolOf (packing p) pool'
  pub goes : Goes held grown.held [] grown.nodes pool pool' budget budget'

-- the branches on their first side
abbrev pub outside_count : List Side → ℕ
outside_count [] = 0
outside_count (b ∷ sides) = if b.inside then outside_count sides else suc (outside_count sides)

-- ---- its log

-- the log of a tree with open ends, and why the search stopped at the first of them
pub record IsOpenLogged (k : Packing) (w : Weights) (level : ℕ) (targets : List ℤ) (b : Beginning) (nodes : List Node) (value : Option ℤ) (pool : List (List ℕ)) (l : Log) (wides steps : ℕ) : Type 0 where
  pub log : IsLogged k w level targets b nodes pool value l.units l.cuts (moment wides steps (length pool))
  pub place : ℕ
  pub fixing : Fixing
  pub first : IsFirstOpen k nodes place fixing
  pub stopped : IsStopped k w (stage_at level targets value pool) fixing (moment_after b.moment log.mine) (moment wides steps (length pool))

-- of a whole tree, or of one with open ends
abbrev pub LogsTree : Packing → Weights → ℕ → List ℤ → Beginning → List Node → Option ℤ → List (List ℕ) → Log → ℕ → ℕ → Bool → Type 0
LogsTree k w level targets b nodes value pool l wides steps true = IsLogged k w level targets b nodes pool value l.units l.cuts (moment wides steps (length pool))
LogsTree k w level targets b nodes value pool l wides steps false = IsOpenLogged k w level targets b nodes value pool l wides steps

-- whatever the log was begun from
pub record LogsAll (k : Packing) (w : Weights) (level : ℕ) (targets : List ℤ) (value value' : Option ℤ) (nodes : List Node) (proved : Bool) (pool pool' : List (List ℕ)) (log log' : Log) (wides wides' steps steps' : ℕ) : Type 0 where
  pub on : (b : Beginning) → IsLogged k w level targets b [] pool value log.units log.cuts (moment wides steps (length pool)) → LogsTree k w level targets b nodes value' pool' log' wides' steps' proved
