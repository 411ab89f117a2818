use Rattle.std.proofs.Common.{◌≡◌, false}
use Rattle.numbers.specs.Below.{any_below}
use Rattle.problem_core.specs.Measures.{differ_at}
use Rattle.problem_core.proofs.measures.better.Given as goal

abbrev pub invariant-loop-k : goal.invariant-loop-k
invariant-loop-k l = any_below (differ_at l.a l.b) l.k ≡ false
