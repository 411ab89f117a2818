use Rattle.std.proofs.Common.{◌≡◌, false}
use Rattle.numbers.specs.Below.{any_below}
use Rattle.problem_core.specs.Measures.{differ_at}
use Rattle.cert_checker.proofs.progress.values_reason.Given as goal

abbrev pub invariant-loop-i : goal.invariant-loop-i
invariant-loop-i l = any_below (differ_at l.values l.measures) l.i ≡ false
