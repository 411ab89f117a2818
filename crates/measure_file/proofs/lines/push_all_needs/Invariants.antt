use Rattle.std.proofs.Common.{◌≡◌, ◌++◌, true, length, drop, map}
use Rattle.std.specs.List.{list_all}
use Rattle.text_lines.specs.Written.{written}
use Rattle.ctt_reader.specs.Entries.{course_names}
use Rattle.measure_file.specs.Promised.{is_pair}
use Rattle.measure_file.specs.Writing.{need_line}
use Rattle.measure_file.proofs.lines.push_all_needs.Given as goal

abbrev pub invariant-loop-row : goal.invariant-loop-row
invariant-loop-row l = record {
  written : l.text.items ++ written (map (need_line (course_names l.i.courses) l.m.features) (drop l.row-index l.row-items)) ≡ l.fn.text.items ++ written (map (need_line (course_names l.i.courses) l.m.features) l.m.needs);
  known : list_all (is_pair (length l.i.courses) (length l.m.features)) (drop l.row-index l.row-items) ≡ true;
}
