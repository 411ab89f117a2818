use Rattle.std.proofs.Common.{arith}
use Rattle.cert_checker.proofs.checker.Checker.new.Goals as goal

pub invariant_of-result : goal.invariant_of-result
invariant_of-result c = record { sound = λ e. c.new.ensures.sound c.args.model.now; line = λ e. omega (arith, c.new.ensures.line) }
