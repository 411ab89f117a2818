use Rattle.std.proofs.Common.{◌≡◌, ◌-◌, length, ℕ, List}
use Rattle.numbers.specs.Below.{first_from}
use Rattle.problem_core.specs.FirstChoice.{can_take}
use Rattle.problem_core.specs.Taken.{IsTaken}
use Rattle.problem_core.proofs.greedy.lowest_room.Given as goal

abbrev pub invariant-loop-room : goal.invariant-loop-room
invariant-loop-room l =
    (a : List ℕ) → IsTaken l.p a l.event l.taken
    → first_from (can_take l.p a l.event) 0 (length l.p.capacity) ≡ first_from (can_take l.p a l.event) l.room (length l.p.capacity - l.room)
