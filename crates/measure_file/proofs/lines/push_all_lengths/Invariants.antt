use Rattle.std.proofs.Common.{◌≡◌, ◌++◌, true, length, drop, map}
use Rattle.std.specs.List.{list_all}
use Rattle.text_lines.specs.Written.{written}
use Rattle.ctt_reader.specs.Entries.{course_names}
use Rattle.measure_file.specs.Promised.{is_length}
use Rattle.measure_file.specs.Writing.{length_line}
use Rattle.measure_file.proofs.lines.push_all_lengths.Given as goal

abbrev pub invariant-loop-row : goal.invariant-loop-row
invariant-loop-row l = record {
  written : l.text.items ++ written (map (length_line (course_names l.i.courses)) (drop l.row-index l.row-items)) ≡ l.fn.text.items ++ written (map (length_line (course_names l.i.courses)) l.m.lengths);
  known : list_all (is_length (length l.i.courses)) (drop l.row-index l.row-items) ≡ true;
}
