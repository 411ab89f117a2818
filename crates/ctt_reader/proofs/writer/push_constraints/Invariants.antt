use Rattle.std.proofs.Common.{◌≡◌, ◌++◌, drop, map}
use Rattle.std.specs.Prelude.{codes}
use Rattle.text_lines.specs.Written.{written}
use Rattle.ctt_reader.specs.Writing.{section_lines, constraint_line}
use Rattle.ctt_reader.proofs.writer.push_constraints.Given as goal

abbrev pub invariant-loop-constraint : goal.invariant-loop-constraint
invariant-loop-constraint l = record {
  listed : l.constraint-items ≡ l.i.constraints;
  text : l.text.items ++ written (map (constraint_line l.i) (drop l.constraint-index l.constraint-items)) ≡ l.fn.text.items ++ written (section_lines (codes "UNAVAILABILITY_CONSTRAINTS:") (map (constraint_line l.i) l.constraint-items));
}
