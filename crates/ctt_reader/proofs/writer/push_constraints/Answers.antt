use Rattle.std.proofs.Common.{◌∙◌, ◌++◌, ap, map, arith}
use Rattle.std.specs.Prelude.{codes}
use Rattle.text_lines.specs.Written.{written}
use Rattle.ctt_reader.specs.Writing.{section_lines, constraint_line}
use Rattle.ctt_reader.proofs.WriteLemmas.{section-begun, section-ended}
use Rattle.ctt_reader.proofs.writer.push_constraints.Goals as goal

pub loop-constraint-init : goal.loop-constraint-init
loop-constraint-init c = record {
  listed = c.as_slice-constraint-items.ensures;
  text = section-begun c.args.text.now.items c.push_section.new.text.items (codes "UNAVAILABILITY_CONSTRAINTS:") (map (constraint_line c.args.i.now) c.as_slice-constraint-items.result.now) c.in_ok-push_section.ensures;
}

pub returns : goal.returns
returns c =
    section-ended (constraint_line c.args.i.now) c.as_slice-constraint-items.result.now c.loop-constraint.constraint-index c.loop-constraint.text.items _ (omega arith) c.loop-constraint.invariant.text
    ∙ ap (λ xs. c.args.text.now.items ++ written (section_lines (codes "UNAVAILABILITY_CONSTRAINTS:") (map (constraint_line c.args.i.now) xs))) c.as_slice-constraint-items.ensures
