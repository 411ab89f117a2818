use Rattle.std.proofs.Common.{arith, sym}
use Rattle.cert_text.proofs.LengthLaws.{long_line}
use Rattle.cert_text.proofs.line.read_line.Goals as goal

pub returns-then-line-gt-LINE_LIMIT : goal.returns-then-line-gt-LINE_LIMIT
returns-then-line-gt-LINE_LIMIT c = sym (long_line c.args.line.now (omega arith))
