use Rattle.cert_text.specs.Sharing.{leaf_text}
use Rattle.cert_text.proofs.WriteLaws.{fed_line}
use Rattle.cert_text.proofs.writer.write_leaf.Goals as goal

pub returns : goal.returns
returns c = fed_line c.args.bytes.now.items c.write_leaf_text.new.bytes.items c.push.new.self.items (leaf_text c.args.leaf.now) c.in_ok-write_leaf_text.ensures c.in_ok-push.ensures.items
