use Rattle.std.proofs.Common.{◌≡◌, ◌++◌, drop, true}
use Rattle.std.specs.List.{flat_map}
use Rattle.week_page.specs.Cells.{are_known}
use Rattle.week_page.specs.Page.{unroomed_line}
use Rattle.week_page.proofs.meetings.push_unroomed_lines.Given as goal

abbrev pub invariant-loop-line : goal.invariant-loop-line
invariant-loop-line l = record {
  text : l.text.items ++ flat_map (unroomed_line l.i) (drop l.line-index l.lines) ≡ l.fn.text.items ++ flat_map (unroomed_line l.i) l.lines;
  known : are_known l.i (drop l.line-index l.lines) ≡ true;
}
