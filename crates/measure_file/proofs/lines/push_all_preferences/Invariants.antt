use Rattle.std.proofs.Common.{◌≡◌, ◌++◌, true, length, drop, map}
use Rattle.std.specs.List.{list_all}
use Rattle.text_lines.specs.Written.{written}
use Rattle.ctt_reader.specs.Entries.{course_names, room_names}
use Rattle.measure_file.specs.Promised.{is_preference}
use Rattle.measure_file.specs.Writing.{prefer_line}
use Rattle.measure_file.proofs.lines.push_all_preferences.Given as goal

abbrev pub invariant-loop-row : goal.invariant-loop-row
invariant-loop-row l = record {
  written : l.text.items ++ written (map (prefer_line (course_names l.i.courses) (room_names l.i.rooms)) (drop l.row-index l.row-items)) ≡ l.fn.text.items ++ written (map (prefer_line (course_names l.i.courses) (room_names l.i.rooms)) l.m.prefer);
  known : list_all (is_preference (length l.i.courses) (length l.i.rooms)) (drop l.row-index l.row-items) ≡ true;
}
