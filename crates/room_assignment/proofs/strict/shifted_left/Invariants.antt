use Rattle.std.proofs.Common.{◌≡◌, length}
use Rattle.room_assignment.proofs.strict.shifted_left.Given as goal

abbrev pub invariant-loop-left : goal.invariant-loop-left
invariant-loop-left l = length l.prices ≡ l.left
