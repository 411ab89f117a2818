use Rattle.std.proofs.Common.{◌≡◌, ◌++◌, drop, true}
use Rattle.std.specs.List.{flat_map}
use Rattle.reports.specs.Rooms.{are_rooms}
use Rattle.reports.specs.Report.{used_text}
use Rattle.reports.proofs.report.push_used.Given as goal

abbrev pub invariant-loop-room : goal.invariant-loop-room
invariant-loop-room l = record {
  text : l.text.items ++ flat_map (used_text l.instance) (drop l.room-index l.rooms) ≡ l.fn.text.items ++ flat_map (used_text l.instance) l.rooms;
  known : are_rooms l.instance (drop l.room-index l.rooms) ≡ true;
}
