-- Leaf lines that a later line may name; a certificate that names them, and one that names none.
use Rattle.std.specs.Prelude.{ℕ, ◌≡◌, ◌==◌, nat_lt, Bool, true, false, if◌then◌else◌, Option, Some, None, is_some, List, [], ◌∷◌, ◌++◌, length, position, slice_get, bytes_eq}
use Rattle.std.specs.List.{list_any, list_all}
use Rattle.std.specs.Option.{unwrap_or}
use Rattle.duality.specs.declared.leaf.Leaf.{Leaf}
use Rattle.duality.specs.declared.leaf.Node.{Node as SearchNode}
use Rattle.duality.specs.declared.leaf.Node.TheVariants.{Branch, Leaf as Closing, OpenEnd, Same}
use Rattle.cert_text.specs.declared.lines.Tree.{Tree}
use Rattle.cert_text.specs.declared.lines.Certificate.{Certificate}
use Rattle.cert_text.specs.declared.lines.CertLine.{CertLine}
use Rattle.cert_text.specs.declared.lines.CertLine.TheVariants.{Head, Node}
use Rattle.cert_text.specs.declared.named.Named.{Named}
use Rattle.cert_text.specs.Spelling.{line_text, line_of}

abbrev pub leaf_text : Leaf → List ℕ
leaf_text leaf = line_text (Node (Closing leaf))

abbrev pub has_line : List ℕ → List (List ℕ) → Bool
has_line line lines = list_any (bytes_eq line) lines

-- the number of the line, from 0
abbrev pub place_of_line : List ℕ → List (List ℕ) → Option ℕ
place_of_line line lines = position (bytes_eq line) lines

abbrev pub with_line : List (List ℕ) → List ℕ → List (List ℕ)
with_line lines line = if has_line line lines then lines else lines ++ (line ∷ [])

-- ---- which node may come

-- the version, and the leaf lines that may be named: all before in version 2, none in version 1
abbrev pub none_named : ℕ → Named
none_named version = record { version = version; lines = [] }

-- in version 2 no leaf line is equal to an earlier one
abbrev pub leaf_named : Named → List ℕ → Option Named
leaf_named k line = if k.version == 2 then (if has_line line k.lines then None else Some (record { version = k.version; lines = k.lines ++ (line ∷ []) })) else Some k

-- what may be named behind a node, where the node may come
abbrev pub names : Named → SearchNode → Option Named
names k (Branch p) = Some k
names k (Closing leaf) = leaf_named k (leaf_text leaf)
names k OpenEnd = Some k
names k (Same q) = if nat_lt q (length k.lines) then Some k else None

-- and behind a line
abbrev pub named : Named → CertLine → Option Named
named k (Head version) = Some (none_named version)
named k (Node n) = names k n
named k l = Some k

-- whether a line may come as far as names go, and what may be named behind it
abbrev pub TookName : Option Named → Named → Bool → Type 0
TookName None k ok = ok ≡ false
TookName (Some n) k ok = (ok ≡ true) × (k ≡ n)

abbrev pub names_then : Option Named → (Named → Option Named) → Option Named
names_then None f = None
names_then (Some k) f = f k

abbrev pub all_named : Named → List CertLine → Option Named
all_named k [] = Some k
all_named k (l ∷ ls) = names_then (named k l) (λ next. all_named next ls)

-- ---- what a line means

-- the leaf that a line spells
abbrev pub leaf_in : Option CertLine → Option Leaf
leaf_in (Some (Node (Closing leaf))) = Some leaf
leaf_in l = None

abbrev pub leaf_node : ℕ → Option Leaf → SearchNode
leaf_node q None = Same q
leaf_node q (Some leaf) = Closing leaf

abbrev pub named_node : ℕ → Option (List ℕ) → SearchNode
named_node q None = Same q
named_node q (Some line) = leaf_node q (leaf_in (line_of line))

-- a node that names a leaf line means the leaf
abbrev pub meant_node : List (List ℕ) → SearchNode → SearchNode
meant_node lines (Same q) = named_node q (slice_get lines q)
meant_node lines n = n

abbrev pub meant : List (List ℕ) → CertLine → CertLine
meant lines (Node n) = Node (meant_node lines n)
meant lines l = l

-- a line that names no other
abbrev pub is_plain : CertLine → Bool
is_plain (Node (Same q)) = false
is_plain l = true

-- what may be named behind a line, whether it may come or not
abbrev pub named_behind : Named → CertLine → Named
named_behind k l = unwrap_or (named k l) k

-- what the lines mean, one after the other
abbrev pub plain_lines : Named → List CertLine → List CertLine
plain_lines k [] = []
plain_lines k (l ∷ ls) = meant k.lines l ∷ plain_lines (named_behind k l) ls

-- lines of leaves within their bounds
abbrev pub is_leaf_line : List ℕ → Bool
is_leaf_line line = is_some (leaf_in (line_of line))

abbrev pub are_leaf_lines : List (List ℕ) → Bool
are_leaf_lines lines = list_all is_leaf_line lines

-- ---- each leaf once, and each leaf where it stands

-- a leaf whose line came before is named
abbrev pub shared_leaf : Leaf → Option ℕ → SearchNode
shared_leaf leaf None = Closing leaf
shared_leaf leaf (Some q) = Same q

abbrev pub shared_node : List (List ℕ) → SearchNode → SearchNode
shared_node lines (Closing leaf) = shared_leaf leaf (place_of_line (leaf_text leaf) lines)
shared_node lines n = n

-- the different leaf lines up to a node
abbrev pub lines_with : List (List ℕ) → SearchNode → List (List ℕ)
lines_with lines (Closing leaf) = with_line lines (leaf_text leaf)
lines_with lines n = lines

abbrev pub lines_after : List (List ℕ) → List SearchNode → List (List ℕ)
lines_after lines [] = lines
lines_after lines (n ∷ ns) = lines_after (lines_with lines n) ns

abbrev pub shared_nodes : List (List ℕ) → List SearchNode → List SearchNode
shared_nodes lines [] = []
shared_nodes lines (n ∷ ns) = shared_node lines n ∷ shared_nodes (lines_with lines n) ns

abbrev pub tree_with : List SearchNode → Tree
tree_with ns = record { nodes = ns }

abbrev pub lines_behind : List (List ℕ) → List Tree → List (List ℕ)
lines_behind lines [] = lines
lines_behind lines (t ∷ ts) = lines_behind (lines_after lines t.nodes) ts

abbrev pub shared_trees : List (List ℕ) → List Tree → List Tree
shared_trees lines [] = []
shared_trees lines (t ∷ ts) = tree_with (shared_nodes lines t.nodes) ∷ shared_trees (lines_after lines t.nodes) ts

abbrev pub shared_last : List (List ℕ) → Option Tree → Option Tree
shared_last lines None = None
shared_last lines (Some t) = Some (tree_with (shared_nodes lines t.nodes))

abbrev pub last_lines : List (List ℕ) → Option Tree → List (List ℕ)
last_lines lines None = lines
last_lines lines (Some t) = lines_after lines t.nodes

-- the different leaf lines of a certificate
abbrev pub kept_lines : Certificate → List (List ℕ)
kept_lines c = last_lines (lines_behind [] c.levels) c.unfinished

-- in version 2, with each leaf that equals an earlier one named
abbrev pub share : Certificate → Certificate
share c = record c { version = 2; levels = shared_trees [] c.levels; unfinished = shared_last (lines_behind [] c.levels) c.unfinished }

-- the leaf with a number, where there is one
abbrev pub plain_same : ℕ → Option Leaf → SearchNode
plain_same q None = Same q
plain_same q (Some leaf) = Closing leaf

-- a node that names a leaf is that leaf
abbrev pub plain_node : List Leaf → SearchNode → SearchNode
plain_node leaves (Same q) = plain_same q (slice_get leaves q)
plain_node leaves n = n

-- the leaves up to a node
abbrev pub leaves_with : List Leaf → SearchNode → List Leaf
leaves_with leaves (Closing leaf) = leaves ++ (leaf ∷ [])
leaves_with leaves n = leaves

abbrev pub leaves_after : List Leaf → List SearchNode → List Leaf
leaves_after leaves [] = leaves
leaves_after leaves (n ∷ ns) = leaves_after (leaves_with leaves n) ns

abbrev pub plain_nodes : List Leaf → List SearchNode → List SearchNode
plain_nodes leaves [] = []
plain_nodes leaves (n ∷ ns) = plain_node leaves n ∷ plain_nodes (leaves_with leaves n) ns

abbrev pub leaves_behind : List Leaf → List Tree → List Leaf
leaves_behind leaves [] = leaves
leaves_behind leaves (t ∷ ts) = leaves_behind (leaves_after leaves t.nodes) ts

abbrev pub plain_trees : List Leaf → List Tree → List Tree
plain_trees leaves [] = []
plain_trees leaves (t ∷ ts) = tree_with (plain_nodes leaves t.nodes) ∷ plain_trees (leaves_after leaves t.nodes) ts

abbrev pub plain_last : List Leaf → Option Tree → Option Tree
plain_last leaves None = None
plain_last leaves (Some t) = Some (tree_with (plain_nodes leaves t.nodes))

-- in version 1, with each named leaf where it is named
abbrev pub plain : Certificate → Certificate
plain c = record c { version = 1; levels = plain_trees [] c.levels; unfinished = plain_last (leaves_behind [] c.levels) c.unfinished }
