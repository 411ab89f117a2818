use Rattle.std.proofs.Common.{arith}
use Rattle.cert_checker.proofs.ReasonLemmas.{some_differs, none_differs}
use Rattle.cert_checker.proofs.progress.values_reason.Goals as goal

pub returns-then-values-i : goal.returns-then-values-i
returns-then-values-i c = some_differs c.args.measures.now c.args.values.now c.loop-i.i c.loop-i-test.true c.if-values-i.true

pub returns : goal.returns
returns c = none_differs c.args.measures.now c.args.values.now c.loop-i.i (omega arith) c.loop-i.invariant
