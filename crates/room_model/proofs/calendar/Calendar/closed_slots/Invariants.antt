use Rattle.std.proofs.Common.{◌≡◌, ◌++◌, map, drop}
use Rattle.room_model.specs.ProblemOf.{closed_slot}
use Rattle.room_model.proofs.calendar.Calendar.closed_slots.Given as goal

abbrev pub invariant-loop-room : goal.invariant-loop-room
invariant-loop-room l = l.slots ++ map (closed_slot l.self.instance.periods) (drop l.room-index l.closed) ≡ map (closed_slot l.self.instance.periods) l.closed
