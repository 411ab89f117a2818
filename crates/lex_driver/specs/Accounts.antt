-- The log of several levels.
use Rattle.std.specs.Prelude.{ℕ, ℤ, pos, ◌≡◌, ◌≤◌, ◌<◌, ◌+◌, ◌-◌, suc, Option, Some, None, List, [], ◌∷◌, ◌++◌, map, length, take, slice_index_or}
use Rattle.std.specs.List.{All}
use Rattle.cert_text.specs.declared.lines.Tree.{Tree}
use Rattle.duality.specs.Packing.{Packing, Weights, Fixing}
use Rattle.duality.specs.Stages.{IsUp}
use Rattle.branch_tree.specs.Logs.{IsLawfulUnit, IsLawfulNote, branches_from, Moment, Passes, IsStopped, moment, moment_after}
use Rattle.branch_tree.specs.Trees.{IsFirstOpen}
use Rattle.branch_tree.specs.declared.log.Unit.{Unit as BranchUnit}
use Rattle.branch_tree.specs.declared.log.CutNote.{CutNote}
use Rattle.problem_core.specs.Facts.{Facts}
use Rattle.packing_model.specs.Built.{packing}
use Rattle.packing_model.specs.Nodes.{stage_at}
use Rattle.search_nodes.specs.Choices.{weighs}
use Rattle.lex_driver.specs.declared.search.Search.{Search}
use Rattle.lex_driver.specs.declared.search.Stopped.{Stopped}
use Rattle.lex_driver.specs.Searches.{nodes_at}

abbrev pub at_level : ℕ → (ℕ × ℕ) → (ℕ × ℕ × ℕ)
at_level level x = (level, x.0, x.1)

abbrev pub branch_of : BranchUnit → (ℕ × ℕ × ℕ)
branch_of u = (u.level, u.node, u.pattern)

-- level, place and pattern of each branch, in order of level and place
abbrev pub branches_of_trees : ℕ → List Tree → List (ℕ × ℕ × ℕ)
branches_of_trees level [] = []
branches_of_trees level (t ∷ ts) = map (at_level level) (branches_from 0 t.nodes) ++ branches_of_trees (suc level) ts

abbrev pub value_at : List ℤ → ℕ → ℤ
value_at values level = slice_index_or values (level - 1) (pos 0)

pub record IsUnitOf (k : Packing) (w : Weights) (trees : List Tree) (values : List ℤ) (pool : List (List ℕ)) (u : BranchUnit) : Type 0 where
  pub low : 1 ≤ u.level
  pub high : u.level ≤ length trees
  pub lawful : IsLawfulUnit k w u.level (take (u.level - 1) values) (nodes_at trees (u.level - 1)) pool u
  pub worth : IsUp u.value (Some (value_at values u.level))

pub record IsNoteOf (k : Packing) (w : Weights) (trees : List Tree) (values : List ℤ) (pool : List (List ℕ)) (i : ℕ) (n : CutNote) : Type 0 where
  pub low : 1 ≤ n.level
  pub high : n.level ≤ length trees
  pub lawful : IsLawfulNote k w n.level (take (n.level - 1) values) (nodes_at trees (n.level - 1)) pool i n
  pub worth : IsUp n.value (Some (value_at values n.level))

-- one unit a branch and one note a cut, in order, each lawful, between two moments
pub record Accounts (k : Packing) (w : Weights) (trees : List Tree) (values : List ℤ) (pool : List (List ℕ)) (m n : Moment) (units : List BranchUnit) (notes : List CutNote) : Type 0 where
  pub one_each : length trees ≡ length values
  pub branches : map branch_of units ≡ branches_of_trees 1 trees
  pub lawful : All (IsUnitOf k w trees values pool) units
  pub passes : Passes m units n
  pub each_cut : length notes + m.cuts ≡ length pool
  pub lawful_notes : (i : ℕ) (d : CutNote) → i < length notes → IsNoteOf k w trees values pool (m.cuts + i) (slice_index_or notes i d)

-- the log where the budget was spent in a level: it tells of the finished trees and of the unfinished one, and why
-- the search stopped at the first open end, at which a pattern is free
pub record IsOpenAccount (p : Facts) (w : Weights) (s : Search) (tree : Tree) (m n : Moment) : Type 0 where
  pub log : Accounts (packing p) w (s.trees ++ tree ∷ []) (s.targets ++ weighs p w (length s.targets + 1) s.choice.entries ∷ []) s.pool m n s.log.units s.log.cuts
  pub place : ℕ
  pub fixing : Fixing
  pub first : IsFirstOpen (packing p) tree.nodes place fixing
  pub stopped : IsStopped (packing p) w (stage_at (length s.targets + 1) s.targets (Some (weighs p w (length s.targets + 1) s.choice.entries)) s.pool) fixing (moment_after m s.log.units) n

abbrev pub Accounted : Facts → Weights → Search → Moment → Moment → Option Tree → Type 0
Accounted p w s m n None = Accounts (packing p) w s.trees s.targets s.pool m n s.log.units s.log.cuts
Accounted p w s m n (Some tree) = IsOpenAccount p w s tree m n

-- whatever the log was begun from
pub record AccountsOn (p : Facts) (w : Weights) (s : Search) (wides steps wides' steps' : ℕ) (stopped : Stopped) : Type 0 where
  pub on : (m : Moment) → Accounts (packing p) w s.trees s.targets s.pool m (moment wides steps (length s.pool)) s.log.units s.log.cuts
      → Accounted p w stopped.search m (moment wides' steps' (length stopped.search.pool)) stopped.unfinished
