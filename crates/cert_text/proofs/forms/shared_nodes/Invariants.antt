use Rattle.std.proofs.Common.{◌≡◌, ◌++◌, drop}
use Rattle.cert_text.specs.Sharing.{shared_nodes, lines_after}
use Rattle.cert_text.proofs.forms.shared_nodes.Given as goal

abbrev pub invariant-loop-node : goal.invariant-loop-node
invariant-loop-node l = record {
  nodes : l.shared ++ shared_nodes l.lines (drop l.node-index l.nodes) ≡ shared_nodes l.fn.lines l.nodes;
  lines : lines_after l.lines (drop l.node-index l.nodes) ≡ lines_after l.fn.lines l.nodes;
}
