use Rattle.std.proofs.Common.{◌≡◌, ◌++◌}
use Rattle.week_page.specs.Lists.{each_below}
use Rattle.week_page.specs.Cells.{cell_in}
use Rattle.week_page.specs.Page.{row_text}
use Rattle.week_page.proofs.days.push_rows.Given as goal

abbrev pub invariant-loop-room : goal.invariant-loop-room
invariant-loop-room l = l.text.items ≡ l.fn.text.items ++ each_below (row_text l.i (cell_in l.t.cells.items) l.day) l.room
