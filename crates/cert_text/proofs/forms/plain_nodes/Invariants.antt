use Rattle.std.proofs.Common.{◌≡◌, ◌++◌, drop, map}
use Rattle.cert_text.specs.Sharing.{plain_nodes, leaves_after}
use Rattle.cert_text.proofs.forms.plain_nodes.Given as goal

abbrev pub invariant-loop-node : goal.invariant-loop-node
invariant-loop-node l = record {
  nodes : l.plain ++ plain_nodes (map (λ leaf. leaf.now) l.leaves) (drop l.node-index l.nodes) ≡ plain_nodes (map (λ leaf. leaf.now) l.fn.leaves) l.nodes;
  leaves : leaves_after (map (λ leaf. leaf.now) l.leaves) (drop l.node-index l.nodes) ≡ leaves_after (map (λ leaf. leaf.now) l.fn.leaves) l.nodes;
}
