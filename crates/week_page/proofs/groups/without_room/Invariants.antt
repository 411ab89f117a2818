use Rattle.std.proofs.Common.{◌≡◌, take}
use Rattle.week_page.specs.Cells.{without_room}
use Rattle.week_page.proofs.groups.without_room.Given as goal

abbrev pub invariant-loop-line : goal.invariant-loop-line
invariant-loop-line l = l.found ≡ without_room (take l.line-index l.lines)
