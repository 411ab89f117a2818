use Rattle.std.proofs.Common.{◌∙◌, ◌++◌, ap, map}
use Rattle.cert_text.specs.declared.lines.CertLine.TheVariants as lines
use Rattle.cert_text.specs.Spelling.{line_text}
use Rattle.cert_text.specs.Grammar.{blocks, open_block}
use Rattle.cert_text.specs.Text.{fed}
use Rattle.cert_text.specs.Writing.{lined}
use Rattle.cert_text.proofs.WriteLaws.{whole_text}
use Rattle.cert_text.proofs.writer.write_all.Goals as goal

pub returns : goal.returns
returns c =
    whole_text c.args.bytes.now.items c.write_opening.new.bytes.items c.write_cuts.new.bytes.items c.write_levels.new.bytes.items c.write_unfinished.new.bytes.items c.write_single.new.bytes.items c.args.c.now
    c.in_ok-write_opening.ensures
    (c.in_ok-write_cuts.ensures ∙ ap (λ cs. c.write_opening.new.bytes.items ++ fed (map line_text (map lines.Cut cs))) c.as_slice.ensures)
    (c.in_ok-write_levels.ensures ∙ ap (λ ls. c.write_cuts.new.bytes.items ++ fed (map line_text (blocks 0 ls))) c.as_slice-2.ensures)
    (c.in_ok-write_unfinished.ensures ∙ ap (λ n. c.write_levels.new.bytes.items ++ fed (map line_text (open_block n c.args.c.now.unfinished))) c.len.ensures)
    (c.in_ok-write_single.ensures ∙ ap (λ n. c.write_unfinished.new.bytes.items ++ lined (line_text (lines.End n))) c.len-2.ensures)
