use Rattle.std.proofs.Common.{◌≡◌, length}
use Rattle.room_assignment.proofs.lists.prices_of.Given as goal

abbrev pub invariant-loop-at : goal.invariant-loop-at
invariant-loop-at l = length l.prices ≡ l.at
