use Rattle.std.proofs.Common.{◌∙◌, ◌++◌, ap, arith, map}
use Rattle.cert_text.specs.declared.lines.CertLine.TheVariants as lines
use Rattle.cert_text.specs.Spelling.{line_text}
use Rattle.cert_text.specs.Text.{fed}
use Rattle.cert_text.proofs.WriteLaws.{level_more}
use Rattle.cert_text.proofs.writer.write_levels.Goals as goal

pub loop-done-preserved : goal.loop-done-preserved
loop-done-preserved c =
    level_more c.loop-done.bytes.items c.write_single.new.bytes.items c.write_nodes.new.bytes.items c.args.levels.now c.loop-done.done c.index-levels-done.result (omega arith) c.index-levels-done.is
    c.in_ok-write_single.ensures
    (c.in_ok-write_nodes.ensures ∙ ap (λ ns. c.write_single.new.bytes.items ++ fed (map line_text (map lines.Node ns))) c.as_slice.ensures)
    ∙ c.loop-done.invariant
