use Rattle.std.proofs.Common.{◌≡◌, ◌++◌, drop, map}
use Rattle.cert_text.specs.Spelling.{line_text}
use Rattle.cert_text.specs.Grammar.{blocks}
use Rattle.cert_text.specs.Text.{fed}
use Rattle.cert_text.proofs.writer.write_levels.Given as goal

abbrev pub invariant-loop-done : goal.invariant-loop-done
invariant-loop-done l = l.bytes.items ++ (fed (map line_text (blocks l.done (drop l.done l.levels)))) ≡ l.fn.bytes.items ++ fed (map line_text (blocks 0 l.levels))
