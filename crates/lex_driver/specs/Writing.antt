-- When what a search found makes a certificate inside the bounds of its lines.
use Rattle.std.specs.Prelude.{ℕ, ◌≡◌, ◌<◌, ◌≤◌, ◌^◌, Bool, true, false, Option, Some, None, List, map, length}
use Rattle.std.specs.List.{list_all, list_any}
use Rattle.problem_core.specs.Facts.{Facts}
use Rattle.problem_core.specs.Choice.{IsLegal}
use Rattle.problem_core.specs.Measures.{measure}
use Rattle.meeting_patterns.specs.Pattern.{patterns_of}
use Rattle.duality.specs.declared.leaf.Node.{Node}
use Rattle.duality.specs.declared.leaf.Node.TheVariants.{Branch, Leaf as Closing, OpenEnd, Same}
use Rattle.duality.specs.Sums.{IsWithin}
use Rattle.duality.specs.After.{is_open}
use Rattle.packing_model.specs.Built.{packing, rows_of}
use Rattle.packing_model.specs.Cuts.{IsPoolOf}
use Rattle.cert_text.specs.declared.lines.Tree.{Tree}
use Rattle.cert_text.specs.declared.lines.CertLine.{CertLine}
use Rattle.cert_text.specs.declared.lines.CertLine.TheVariants as lines
use Rattle.cert_text.specs.Grammar.{fills}
use Rattle.cert_text.specs.Spelling.{in_bounds}
use Rattle.lex_driver.specs.Searches.{nodes_at}

-- a node that names no leaf
abbrev pub is_plain_node : Node → Bool
is_plain_node (Branch p) = true
is_plain_node (Closing leaf) = true
is_plain_node OpenEnd = true
is_plain_node (Same leaf) = false

-- a line behind the head that names no leaf
abbrev pub is_plain_line : CertLine → Bool
is_plain_line (lines.Head version) = false
is_plain_line (lines.Node n) = is_plain_node n
is_plain_line l = true

-- nodes of one tree, each inside its bounds and none the name of a leaf
pub record IsTreeWithin (ns : List Node) : Type 0 where
  pub filled : fills 0 ns ≡ true
  pub plain : list_all is_plain_line (map lines.Node ns) ≡ true
  pub bounded : list_all in_bounds (map lines.Node ns) ≡ true

-- the unfinished tree, where there is one
abbrev pub IsLeft : ℕ → Option Tree → Type 0
IsLeft n None = n ≤ 6
IsLeft n (Some t) = (n < 6) × IsTreeWithin t.nodes × (list_any is_open t.nodes ≡ true)

-- few of everything, a legal choice with small measures, whole trees, and perhaps one with open ends
pub record IsFound (p : Facts) (trees : List Tree) (unfinished : Option Tree) (cuts : List (List ℕ)) (a : List ℕ) : Type 0 where
  pub patterns : length (patterns_of p) ≤ 200000
  pub rows : length (rows_of p) ≤ 4000
  pub events : length p.events ≤ 4000
  pub rooms : length p.capacity ≤ 200
  pub few : length cuts ≤ 1000
  pub pool : IsPoolOf (packing p) cuts
  pub legal : IsLegal p a
  pub small : (j : ℕ) → IsWithin (10 ^ 12) (measure p j a)
  pub each_tree : (i : ℕ) → i < length trees → IsTreeWithin (nodes_at trees i) × (list_any is_open (nodes_at trees i) ≡ false)
  pub left : IsLeft (length trees) unfinished
