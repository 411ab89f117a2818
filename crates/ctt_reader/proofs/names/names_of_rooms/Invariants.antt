use Rattle.std.proofs.Common.{◌≡◌, ◌++◌, drop}
use Rattle.ctt_reader.specs.Entries.{room_names}
use Rattle.ctt_reader.proofs.names.names_of_rooms.Given as goal

abbrev pub invariant-loop-room : goal.invariant-loop-room
invariant-loop-room l = l.names ++ room_names (drop l.room-index l.room-items) ≡ room_names l.i.rooms
