use Rattle.std.proofs.Common.{◌≡◌, ◌-◌}
use Rattle.numbers.specs.Below.{first_from}
use Rattle.problem_core.specs.Choice.{holds}
use Rattle.problem_core.proofs.legal.first_holder.Given as goal

abbrev pub invariant-loop-other : goal.invariant-loop-other
invariant-loop-other l = first_from (holds l.p l.entries l.event l.entry) 0 l.event ≡ first_from (holds l.p l.entries l.event l.entry) l.other (l.event - l.other)
