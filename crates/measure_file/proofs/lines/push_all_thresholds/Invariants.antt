use Rattle.std.proofs.Common.{◌≡◌, ◌++◌, drop, map}
use Rattle.text_lines.specs.Written.{written}
use Rattle.measure_file.specs.Writing.{robust_line}
use Rattle.measure_file.proofs.lines.push_all_thresholds.Given as goal

abbrev pub invariant-loop-row : goal.invariant-loop-row
invariant-loop-row l = l.text.items ++ written (map (robust_line) (drop l.row-index l.row-items)) ≡ l.fn.text.items ++ written (map (robust_line) l.m.robust)
