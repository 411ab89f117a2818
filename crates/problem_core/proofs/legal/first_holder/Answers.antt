use Rattle.std.proofs.Common.{◌∙◌, sym, arith}
use Rattle.numbers.specs.Below.{first_from_no}
use Rattle.problem_core.specs.Choice.{holds}
use Rattle.problem_core.proofs.legal.first_holder.Goals as goal

pub loop-other-preserved : goal.loop-other-preserved
loop-other-preserved c =
    c.loop-other.invariant ∙ first_from_no (holds c.args.p.now c.args.entries.now c.args.event c.args.entry) c.loop-other.other _ (omega arith) (sym c.holds.ensures ∙ c.if-holds.false)
