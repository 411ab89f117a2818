use Rattle.std.proofs.Common.{◌≡◌, ◌++◌, drop, map}
use Rattle.cert_text.specs.declared.lines.CertLine.TheVariants as lines
use Rattle.cert_text.specs.Spelling.{line_text}
use Rattle.cert_text.specs.Text.{fed}
use Rattle.cert_text.proofs.writer.write_nodes.Given as goal

abbrev pub invariant-loop-node : goal.invariant-loop-node
invariant-loop-node l = l.bytes.items ++ (fed (map line_text (map lines.Node (drop l.node-index l.nodes)))) ≡ l.fn.bytes.items ++ fed (map line_text (map lines.Node l.nodes))
