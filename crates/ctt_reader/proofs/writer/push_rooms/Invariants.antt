use Rattle.std.proofs.Common.{◌≡◌, ◌++◌, drop, map}
use Rattle.std.specs.Prelude.{codes}
use Rattle.text_lines.specs.Written.{written}
use Rattle.ctt_reader.specs.Writing.{section_lines, room_line}
use Rattle.ctt_reader.proofs.writer.push_rooms.Given as goal

abbrev pub invariant-loop-room : goal.invariant-loop-room
invariant-loop-room l = record {
  listed : l.room-items ≡ l.i.rooms;
  text : l.text.items ++ written (map room_line (drop l.room-index l.room-items)) ≡ l.fn.text.items ++ written (section_lines (codes "ROOMS:") (map room_line l.room-items));
}
