use Rattle.std.proofs.Common.{◌≡◌, ◌≤◌, length}
use Rattle.std.specs.Prelude.{codes}
use Rattle.ctt_reader.specs.Grammar.{section, section_of}
use Rattle.ctt_reader.specs.Entries.{room_after, room_names}
use Rattle.ctt_reader.proofs.reader.read_named_rooms.Given as goal

abbrev pub invariant-loop-rooms : goal.invariant-loop-rooms
invariant-loop-rooms l = record {
  read : section (codes "CURRICULA:") l.wanted room_after l.rows.past l.rooms l.rows.rows ≡ section_of (codes "CURRICULA:") l.wanted room_after l.initial.rows;
  few : length l.rooms ≤ l.wanted;
  names : l.names ≡ room_names l.rooms;
}

abbrev pub decreases-loop-rooms : goal.decreases-loop-rooms
decreases-loop-rooms l = length l.rows.rows
