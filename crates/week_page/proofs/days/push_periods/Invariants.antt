use Rattle.std.proofs.Common.{◌≡◌, ◌++◌}
use Rattle.week_page.specs.Lists.{each_below}
use Rattle.week_page.specs.Page.{period_text}
use Rattle.week_page.proofs.days.push_periods.Given as goal

abbrev pub invariant-loop-period : goal.invariant-loop-period
invariant-loop-period l = l.text.items ≡ l.fn.text.items ++ each_below period_text l.period
