use Rattle.std.proofs.Common.{◌≡◌, ◌++◌}
use Rattle.week_page.specs.Lists.{each_below}
use Rattle.week_page.specs.Cells.{cell_in}
use Rattle.week_page.specs.Page.{cell_text}
use Rattle.week_page.proofs.days.push_cells.Given as goal

abbrev pub invariant-loop-period : goal.invariant-loop-period
invariant-loop-period l = l.text.items ≡ l.fn.text.items ++ each_below (λ period. cell_text l.i l.seats (cell_in l.t.cells.items l.day l.room period)) l.period
