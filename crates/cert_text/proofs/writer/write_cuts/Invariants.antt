use Rattle.std.proofs.Common.{◌≡◌, ◌++◌, drop, map}
use Rattle.cert_text.specs.declared.lines.CertLine.TheVariants as lines
use Rattle.cert_text.specs.Spelling.{line_text}
use Rattle.cert_text.specs.Text.{fed}
use Rattle.cert_text.proofs.writer.write_cuts.Given as goal

abbrev pub invariant-loop-cut : goal.invariant-loop-cut
invariant-loop-cut l = l.bytes.items ++ (fed (map line_text (map lines.Cut (drop l.cut-index l.cuts)))) ≡ l.fn.bytes.items ++ fed (map line_text (map lines.Cut l.cuts))
