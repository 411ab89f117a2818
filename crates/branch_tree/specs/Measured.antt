-- The tree of a level of the six measures.
use Rattle.std.specs.Prelude.{ℕ, ℤ, ◌≡◌, ◌≤ℤ◌, ◌+◌, ◌-◌, true, false, Bool, Some, List, map, length, take}
use Rattle.std.specs.List.{list_all}
use Rattle.problem_core.specs.Facts.{Facts}
use Rattle.problem_core.specs.Choice.{IsLegal}
use Rattle.problem_core.specs.Measures.{measure, measures, SameBelow}
use Rattle.problem_core.specs.declared.choice.Choice.{Choice}
use Rattle.duality.specs.declared.leaf.Node.{Node}
use Rattle.duality.specs.Units.{branch_count}
use Rattle.packing_model.specs.Built.{packing, measured}
use Rattle.packing_model.specs.Cuts.{IsPoolOf}
use Rattle.packing_model.specs.Nodes.{stage_at}
use Rattle.cert_text.specs.declared.lines.Tree.{Tree}
use Rattle.cert_text.specs.declared.lines.CertLine.TheVariants.{Node as node_line}
use Rattle.cert_text.specs.Spelling.{in_bounds}
use Rattle.branch_tree.specs.Trees.{Ends, LogsAll}
use Rattle.branch_tree.specs.declared.log.Log.{Log}
use Rattle.branch_tree.specs.declared.measures.Grown.{Grown}
use Rattle.branch_tree.specs.declared.measures.Grown.TheVariants.{Proved, Spent}

-- the measures below the level
abbrev pub targets_of : Facts → ℕ → List ℕ → List ℤ
targets_of p level a = take (level - 1) (measures p a)

-- a legal choice with the same measures below and no less at the level; a tree that is whole or not, each of
-- whose nodes is inside the bounds of a certificate's lines
pub record GrowsAt (p : Facts) (level : ℕ) (best : List ℕ) (pool pool' : List (List ℕ)) (budget budget' : ℕ) (proved : Bool) (nodes : List Node) (choice : List ℕ) : Type 0 where
  pub legal : IsLegal p choice
  pub same_below : SameBelow p level best choice
  pub no_less : measure p level best ≤ℤ measure p level choice
  pub ends : Ends (packing p) (measured p) (stage_at level (targets_of p level best) (Some (measure p level choice)) pool') nodes budget' proved
  pub bounded : list_all in_bounds (map node_line nodes) ≡ true
  pub paid : branch_count nodes + budget' ≡ budget
  pub kept : take (length pool) pool' ≡ pool
  pub pool_is : IsPoolOf (packing p) pool'

abbrev pub GrowsTo : Facts → ℕ → List ℕ → List (List ℕ) → List (List ℕ) → ℕ → ℕ → Grown → Type 0
GrowsTo p level best pool pool' budget budget' (Proved tree choice) = GrowsAt p level best pool pool' budget budget' true tree.nodes choice.entries
GrowsTo p level best pool pool' budget budget' (Spent tree choice) = GrowsAt p level best pool pool' budget budget' false tree.nodes choice.entries

abbrev pub LogsAt : Facts → ℕ → List ℕ → List (List ℕ) → List (List ℕ) → Log → Log → ℕ → ℕ → ℕ → ℕ → Bool → List Node → List ℕ → Type 0
LogsAt p level best pool pool' log log' wides wides' steps steps' proved nodes choice =
    LogsAll (packing p) (measured p) level (targets_of p level best) (Some (measure p level best)) (Some (measure p level choice)) nodes proved pool pool' log log' wides wides' steps steps'

abbrev pub LogsTo : Facts → ℕ → List ℕ → List (List ℕ) → List (List ℕ) → Log → Log → ℕ → ℕ → ℕ → ℕ → Grown → Type 0
LogsTo p level best pool pool' log log' wides wides' steps steps' (Proved tree choice) = LogsAt p level best pool pool' log log' wides wides' steps steps' true tree.nodes choice.entries
LogsTo p level best pool pool' log log' wides wides' steps steps' (Spent tree choice) = LogsAt p level best pool pool' log log' wides wides' steps steps' false tree.nodes choice.entries

abbrev pub IsEnded : Tree → Choice → Bool → Grown → Type 0
IsEnded tree choice proved (Proved t c) = (t ≡ tree) × (c ≡ choice) × (proved ≡ true)
IsEnded tree choice proved (Spent t c) = (t ≡ tree) × (c ≡ choice) × (proved ≡ false)
