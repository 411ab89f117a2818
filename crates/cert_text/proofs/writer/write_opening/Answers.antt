use Rattle.std.proofs.Common.{◌∙◌, ◌++◌, ap, length}
use Rattle.cert_text.specs.declared.lines.CertLine.TheVariants as lines
use Rattle.cert_text.specs.Spelling.{line_text}
use Rattle.cert_text.specs.Writing.{lined}
use Rattle.cert_text.proofs.WriteLaws.{opening_line}
use Rattle.cert_text.proofs.writer.write_opening.Goals as goal

pub returns : goal.returns
returns c =
    opening_line c.args.bytes.now.items c.write_single.new.bytes.items c.write_sizes.new.bytes.items c.write_counted.new.bytes.items c.write_values.new.bytes.items c.write_single-2.new.bytes.items
    (line_text (lines.Head c.args.c.now.version)) (line_text (lines.Sizes c.args.c.now.patterns c.args.c.now.rows)) (line_text (lines.Choice c.args.c.now.choice)) (line_text (lines.Values c.args.c.now.values)) (line_text (lines.Cuts (length c.args.c.now.cuts)))
    c.in_ok-write_single.ensures c.in_ok-write_sizes.ensures
    (c.in_ok-write_counted.ensures ∙ ap (λ es. c.write_sizes.new.bytes.items ++ lined (line_text (lines.Choice es))) c.as_slice.ensures)
    c.in_ok-write_values.ensures
    (c.in_ok-write_single-2.ensures ∙ ap (λ n. c.write_values.new.bytes.items ++ lined (line_text (lines.Cuts n))) c.len.ensures)
