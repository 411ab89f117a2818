use Rattle.std.proofs.Common.{◌≡◌, ◌++◌, []}
use Rattle.std.specs.Prelude.{slice_index_or}
use Rattle.reports.specs.Rooms.{each_below}
use Rattle.reports.specs.Report.{room_text}
use Rattle.reports.proofs.report.push_rooms.Given as goal

abbrev pub invariant-loop-room : goal.invariant-loop-room
invariant-loop-room l = l.text.items ≡ l.fn.text.items ++ each_below (λ r. room_text l.instance r (slice_index_or l.rooms r [])) l.room
