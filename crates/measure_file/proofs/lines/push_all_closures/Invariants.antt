use Rattle.std.proofs.Common.{◌≡◌, ◌++◌, true, length, drop, map}
use Rattle.std.specs.List.{list_all}
use Rattle.text_lines.specs.Written.{written}
use Rattle.ctt_reader.specs.Entries.{room_names}
use Rattle.measure_file.specs.Promised.{is_triple}
use Rattle.measure_file.specs.Writing.{closed_line}
use Rattle.measure_file.proofs.lines.push_all_closures.Given as goal

abbrev pub invariant-loop-row : goal.invariant-loop-row
invariant-loop-row l = record {
  written : l.text.items ++ written (map (closed_line (room_names l.i.rooms)) (drop l.row-index l.row-items)) ≡ l.fn.text.items ++ written (map (closed_line (room_names l.i.rooms)) l.m.closed);
  known : list_all (is_triple (length l.i.rooms) l.i.days l.i.periods) (drop l.row-index l.row-items) ≡ true;
}
