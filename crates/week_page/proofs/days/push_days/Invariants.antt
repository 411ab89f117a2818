use Rattle.std.proofs.Common.{◌≡◌, ◌++◌}
use Rattle.week_page.specs.Lists.{each_below}
use Rattle.week_page.specs.Cells.{cell_in}
use Rattle.week_page.specs.Page.{day_text}
use Rattle.week_page.proofs.days.push_days.Given as goal

abbrev pub invariant-loop-day : goal.invariant-loop-day
invariant-loop-day l = l.text.items ≡ l.fn.text.items ++ each_below (day_text l.i (cell_in l.t.cells.items)) l.day
