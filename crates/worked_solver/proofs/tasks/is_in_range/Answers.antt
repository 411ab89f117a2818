use Rattle.std.proofs.Common.{◌<◌, length, arith}
use Rattle.worked_solver.proofs.RangeLemmas.{columns_below}
use Rattle.worked_solver.proofs.tasks.is_in_range.Goals as goal

pub returns : goal.returns
returns c = λ _. columns_below c.args.columns c.args.entries.now (λ j l. c.loop-i.invariant j (omega arith))
