-- What a line adds to what was read, where the place behind it is known.
use Rattle.std.specs.Prelude.{Some, List, [], ◌∷◌, ◌++◌}
use Rattle.duality.specs.declared.leaf.Node.{Node as SearchNode}
use Rattle.cert_text.specs.declared.lines.Certificate.{Certificate}
use Rattle.cert_text.specs.declared.lines.CertLine.{CertLine}
use Rattle.cert_text.specs.declared.lines.CertLine.TheVariants as lines
use Rattle.cert_text.specs.declared.place.Place.{Place}
use Rattle.cert_text.specs.declared.place.Place.TheVariants.{Between, After}
use Rattle.cert_text.specs.Grammar.{tree_of}

-- a tree ends where the place is behind it
abbrev pub ended : Place → List SearchNode → Certificate → Certificate
ended (Between levels) ns c = record c { levels = c.levels ++ (tree_of ns ∷ []) }
ended (After levels) ns c = record c { unfinished = Some (tree_of ns) }
ended place ns c = c

abbrev pub nodes_after : Place → List SearchNode → List SearchNode
nodes_after (Between levels) ns = []
nodes_after (After levels) ns = []
nodes_after place ns = ns

abbrev pub certificate_with : CertLine → Place → Certificate → List SearchNode → Certificate
certificate_with (lines.Head v) q c ns = record c { version = v }
certificate_with (lines.Sizes p r) q c ns = record c { patterns = p; rows = r }
certificate_with (lines.Choice entries) q c ns = record c { choice = entries }
certificate_with (lines.Values values) q c ns = record c { values = values }
certificate_with (lines.Cut ps) q c ns = record c { cuts = c.cuts ++ (ps ∷ []) }
certificate_with (lines.Node n) q c ns = ended q (ns ++ (n ∷ [])) c
certificate_with line q c ns = c

abbrev pub nodes_with : CertLine → Place → List SearchNode → List SearchNode
nodes_with (lines.Level j) q ns = []
nodes_with (lines.Unfinished j) q ns = []
nodes_with (lines.Node n) q ns = nodes_after q (ns ++ (n ∷ []))
nodes_with line q ns = ns
