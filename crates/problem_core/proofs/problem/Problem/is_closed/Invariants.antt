use Rattle.std.proofs.Common.{◌≡◌, ◌-◌, ◌+◌}
use Rattle.std.specs.List.{list_any}
use Rattle.problem_core.specs.Facts.{is_closed, run_of}
use Rattle.problem_core.proofs.problem.Problem.is_closed.Given as goal

abbrev pub invariant-loop-s : goal.invariant-loop-s
invariant-loop-s l =
    list_any (is_closed l.self l.room) (run_of l.slot l.count)
    ≡ list_any (is_closed l.self l.room) (run_of l.s (l.slot + l.count - l.s))
