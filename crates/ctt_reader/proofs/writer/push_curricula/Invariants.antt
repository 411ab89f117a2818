use Rattle.std.proofs.Common.{◌≡◌, ◌++◌, drop, map}
use Rattle.std.specs.Prelude.{codes}
use Rattle.text_lines.specs.Written.{written}
use Rattle.ctt_reader.specs.Writing.{section_lines, curriculum_line}
use Rattle.ctt_reader.proofs.writer.push_curricula.Given as goal

abbrev pub invariant-loop-curriculum : goal.invariant-loop-curriculum
invariant-loop-curriculum l = record {
  listed : l.curriculum-items ≡ l.i.curricula;
  text : l.text.items ++ written (map (curriculum_line l.i) (drop l.curriculum-index l.curriculum-items)) ≡ l.fn.text.items ++ written (section_lines (codes "CURRICULA:") (map (curriculum_line l.i) l.curriculum-items));
}
