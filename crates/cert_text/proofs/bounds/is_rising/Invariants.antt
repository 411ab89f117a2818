use Rattle.std.proofs.Common.{◌≡◌, drop}
use Rattle.cert_text.specs.Spelling.{rises_above, is_rising}
use Rattle.cert_text.proofs.bounds.is_rising.Given as goal

abbrev pub invariant-loop-number : goal.invariant-loop-number
invariant-loop-number l = rises_above l.last (drop l.number-index l.rest) ≡ is_rising l.numbers
