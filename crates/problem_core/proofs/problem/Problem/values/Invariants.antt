use Rattle.std.proofs.Common.{◌*◌}
use Rattle.problem_core.specs.Sums.{AreSums, AreWithin}
use Rattle.problem_core.proofs.problem.Problem.values.Given as goal

abbrev pub invariant-loop-event : goal.invariant-loop-event
invariant-loop-event l = record {
  sums : AreSums l.self l.a.entries l.event l.total;
  small : AreWithin (l.event * 48000000) l.total;
}
