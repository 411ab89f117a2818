use Rattle.std.proofs.Common.{◌≡◌, ◌+◌, ◌-◌, ◌*◌, false, get_or}
use Rattle.std.specs.List.{list_any}
use Rattle.problem_core.specs.Facts.{run_of}
use Rattle.room_model.proofs.long.is_taken.Given as goal

abbrev pub invariant-loop-t : goal.invariant-loop-t
invariant-loop-t l =
    list_any (λ t. get_or l.taken (l.row * l.columns + t) false) (run_of l.from l.count)
    ≡ list_any (λ t. get_or l.taken (l.row * l.columns + t) false) (run_of l.t (l.from + l.count - l.t))
