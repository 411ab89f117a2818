use Rattle.std.proofs.Common.{◌≡◌, drop}
use Rattle.cert_checker.specs.Faults.{unknown_reason}
use Rattle.cert_checker.proofs.progress.unknown_reason.Given as goal

abbrev pub invariant-loop-pattern : goal.invariant-loop-pattern
invariant-loop-pattern l = unknown_reason l.count (drop l.pattern-index l.patterns) ≡ unknown_reason l.count l.patterns
