use Rattle.std.proofs.Common.{◌≡◌, ◌++◌, drop, true}
use Rattle.std.specs.List.{flat_map}
use Rattle.week_page.specs.Cells.{are_known}
use Rattle.week_page.specs.Page.{entry_text}
use Rattle.week_page.proofs.days.push_entries.Given as goal

abbrev pub invariant-loop-line : goal.invariant-loop-line
invariant-loop-line l = record {
  text : l.text.items ++ flat_map (entry_text l.i l.seats) (drop l.line-index l.lines) ≡ l.fn.text.items ++ flat_map (entry_text l.i l.seats) l.lines;
  known : are_known l.i (drop l.line-index l.lines) ≡ true;
}
