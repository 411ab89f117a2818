use Rattle.std.proofs.Common.{◌≡◌, [], take, drop}
use Rattle.room_model.specs.Long.{long_from}
use Rattle.room_model.specs.Taken.{AreTaken}
use Rattle.room_model.proofs.long.fault_by_table.Given as goal

abbrev pub invariant-loop-event : goal.invariant-loop-event
invariant-loop-event l = record {
  fault : long_from l.calendar.instance l.calendar.measures (take l.event l.meetings) (drop l.event l.meetings) ≡ long_from l.calendar.instance l.calendar.measures [] l.meetings;
  taken : AreTaken l.calendar.instance l.calendar.measures (take l.event l.meetings) l.taken;
}
