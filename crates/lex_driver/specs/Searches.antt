-- Levels that were proved one after the other.
use Rattle.std.specs.Prelude.{ℕ, ℤ, pos, ◌≡◌, ◌≤◌, ◌<◌, ◌+◌, ◌*◌, ◌-◌, ◌^◌, true, Option, Some, None, List, [], ◌∷◌, length, take, slice_index_or}
use Rattle.std.specs.List.{All}
use Rattle.problem_core.specs.Facts.{Facts}
use Rattle.problem_core.specs.Choice.{IsLegal}
use Rattle.meeting_patterns.specs.Pattern.{patterns_of}
use Rattle.duality.specs.declared.leaf.Node.{Node}
use Rattle.duality.specs.Packing.{Weights, Stage}
use Rattle.duality.specs.Sums.{IsWithin}
use Rattle.duality.specs.Tree.{proves_level}
use Rattle.packing_model.specs.Built.{packing}
use Rattle.packing_model.specs.Cuts.{IsPoolOf}
use Rattle.packing_model.specs.Nodes.{stage_at}
use Rattle.duality.specs.Units.{branch_count}
use Rattle.search_nodes.specs.Choices.{IsHeld, weighs}
use Rattle.cert_text.specs.Grammar.{tree_of}
use Rattle.cert_text.specs.declared.lines.Tree.{Tree}
use Rattle.branch_tree.specs.Growths.{IsFineNode}
use Rattle.branch_tree.specs.Trees.{IsOpened}
use Rattle.lex_driver.specs.declared.search.Search.{Search}
use Rattle.lex_driver.specs.declared.search.Stopped.{Stopped}

-- the objective counts the problem's patterns, and no legal choice weighs more than 10^12 in size at a level
pub record HasLevels (p : Facts) (w : Weights) (count levels : ℕ) : Type 0 where
  pub counted : count ≡ length (patterns_of p)
  pub small : (level : ℕ) (a : List ℕ) → 1 ≤ level → level ≤ levels → IsLegal p a → IsWithin (10 ^ 12) (weighs p w level a)

abbrev pub nodes_at : List Tree → ℕ → List Node
nodes_at ts i = (slice_index_or ts i (tree_of [])).nodes

-- the i-th level's stage: the values below it are its targets, its own is what its tree proves
abbrev pub proved_stage : List ℤ → List (List ℕ) → ℕ → Stage
proved_stage values cuts i = stage_at (i + 1) (take i values) (Some (slice_index_or values i (pos 0))) cuts

-- the branches of all trees together
abbrev pub branches_of : List Tree → ℕ
branches_of [] = 0
branches_of (t ∷ ts) = branch_count t.nodes + branches_of ts

-- each tree proves its level, and the choice has all values so far
pub record AreProved (p : Facts) (w : Weights) (trees : List Tree) (values : List ℤ) (cuts : List (List ℕ)) (choice : List ℕ) : Type 0 where
  pub one_each : length trees ≡ length values
  pub proved : (i : ℕ) → i < length values → proves_level (packing p) w (proved_stage values cuts i) (nodes_at trees i) ≡ true
  pub fine : (i : ℕ) → i < length values → All IsFineNode (nodes_at trees i)
  pub held : IsHeld p w (length values + 1) values choice
  pub small : (i : ℕ) → i < length values → IsWithin (10 ^ 12) (slice_index_or values i (pos 0))
  pub pool : IsPoolOf (packing p) cuts
  pub few : branches_of trees ≤ length values * (2 ^ (packing p).count - 1)

pub record IsSearch (p : Facts) (w : Weights) (s : Search) : Type 0 where
  pub are : AreProved p w s.trees s.targets s.pool s.choice.entries

-- the tree of the next level, which was left with open ends, over the choice that is held
pub record IsUnfinished (p : Facts) (w : Weights) (s : Search) (nodes : List Node) : Type 0 where
  pub opened : IsOpened (packing p) w (stage_at (length s.targets + 1) s.targets (Some (weighs p w (length s.targets + 1) s.choice.entries)) s.pool) nodes
  pub fine : All IsFineNode nodes

-- one level more, or the budget is spent in it
abbrev pub Ended : Facts → Weights → Search → Search → Option Tree → Type 0
Ended p w s t None = (length t.targets ≡ length s.targets + 1) × (branches_of t.trees + t.budget.left ≡ branches_of s.trees + s.budget.left)
Ended p w s t (Some tree) = (length t.targets ≡ length s.targets) × (t.budget.left ≡ 0) × (branches_of t.trees + branch_count tree.nodes ≡ branches_of s.trees + s.budget.left) × IsUnfinished p w t tree.nodes

pub record Advances (p : Facts) (w : Weights) (s : Search) (stopped : Stopped) : Type 0 where
  pub kept : IsSearch p w stopped.search
  pub ended : Ended p w s stopped.search stopped.unfinished

-- all levels are proved, within the budget; or exactly the budget was spent, and it was less than the levels need
abbrev pub SearchEnds : Facts → Weights → ℕ → ℕ → Search → Option Tree → Type 0
SearchEnds p w levels budget s None = (length s.targets ≡ levels) × (branches_of s.trees ≤ budget)
SearchEnds p w levels budget s (Some tree) = (length s.targets < levels) × (branches_of s.trees + branch_count tree.nodes ≡ budget) × (budget < levels * (2 ^ (packing p).count - 1)) × IsUnfinished p w s tree.nodes

pub record Searches (p : Facts) (w : Weights) (levels budget : ℕ) (stopped : Stopped) : Type 0 where
  pub kept : IsSearch p w stopped.search
  pub ends : SearchEnds p w levels budget stopped.search stopped.unfinished
