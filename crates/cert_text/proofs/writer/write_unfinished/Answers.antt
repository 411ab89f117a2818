use Rattle.std.proofs.Common.{◌∙◌, ◌++◌, ◌+◌, ap, sym, map}
use Rattle.cert_text.specs.declared.lines.CertLine.TheVariants as lines
use Rattle.cert_text.specs.Spelling.{line_text}
use Rattle.cert_text.specs.Grammar.{open_block}
use Rattle.cert_text.specs.Text.{fed}
use Rattle.cert_text.proofs.WriteLaws.{line_then}
use Rattle.cert_text.proofs.writer.write_unfinished.Goals as goal

pub returns-in_ok-write_nodes-in-Some : goal.returns-in_ok-write_nodes-in-Some
returns-in_ok-write_nodes-in-Some c =
    line_then c.args.bytes.now.items c.write_single.new.bytes.items c.write_nodes.new.bytes.items (line_text (lines.Unfinished (c.args.done + 1))) (map lines.Node c.in-Some.tree.nodes)
    c.in_ok-write_single-in-Some.ensures
    (c.in_ok-write_nodes-in-Some.ensures ∙ ap (λ ns. c.write_single.new.bytes.items ++ fed (map line_text (map lines.Node ns))) c.as_slice.ensures)
    ∙ ap (λ u. c.args.bytes.now.items ++ fed (map line_text (open_block c.args.done u))) (sym c.in-Some.is)
