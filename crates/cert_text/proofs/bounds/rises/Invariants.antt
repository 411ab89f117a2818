use Rattle.std.proofs.Common.{◌≡◌, drop}
use Rattle.duality.specs.Sums.{rises_from, rises}
use Rattle.cert_text.proofs.bounds.rises.Given as goal

abbrev pub invariant-loop-term : goal.invariant-loop-term
invariant-loop-term l = rises_from l.last (drop l.term-index l.rest) ≡ rises l.terms
