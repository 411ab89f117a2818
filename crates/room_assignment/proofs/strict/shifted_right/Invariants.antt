use Rattle.std.proofs.Common.{◌≡◌, length}
use Rattle.room_assignment.proofs.strict.shifted_right.Given as goal

abbrev pub invariant-loop-right : goal.invariant-loop-right
invariant-loop-right l = length l.prices ≡ l.right
