use Rattle.std.proofs.Common.{◌∙◌, ◌++◌, ap, map, arith}
use Rattle.std.specs.Prelude.{codes}
use Rattle.text_lines.specs.Written.{written}
use Rattle.ctt_reader.specs.Writing.{section_lines, curriculum_line}
use Rattle.ctt_reader.proofs.WriteLemmas.{section-begun, section-ended}
use Rattle.ctt_reader.proofs.writer.push_curricula.Goals as goal

pub loop-curriculum-init : goal.loop-curriculum-init
loop-curriculum-init c = record {
  listed = c.as_slice-curriculum-items.ensures;
  text = section-begun c.args.text.now.items c.push_section.new.text.items (codes "CURRICULA:") (map (curriculum_line c.args.i.now) c.as_slice-curriculum-items.result.now) c.in_ok-push_section.ensures;
}

pub returns : goal.returns
returns c =
    section-ended (curriculum_line c.args.i.now) c.as_slice-curriculum-items.result.now c.loop-curriculum.curriculum-index c.loop-curriculum.text.items _ (omega arith) c.loop-curriculum.invariant.text
    ∙ ap (λ xs. c.args.text.now.items ++ written (section_lines (codes "CURRICULA:") (map (curriculum_line c.args.i.now) xs))) c.as_slice-curriculum-items.ensures
