use Rattle.std.proofs.Common.{◌∙◌, ◌++◌, ◌∷◌, ap, map, length}
use Rattle.std.specs.Prelude.{decimal}
use Rattle.text_lines.specs.Written.{behind_blanks}
use Rattle.ctt_reader.specs.Naming.{course_name}
use Rattle.ctt_reader.proofs.WriteLemmas.{counted-line}
use Rattle.ctt_reader.proofs.writer.push_curriculum.Goals as goal

pub returns : goal.returns
returns c =
    counted-line c.args.text.now.items c.extend_from_slice.new.self.items c.push_next_number.new.text.items c.push_members.new.text.items c.extend_from_slice-2.new.self.items
    c.args.curriculum.now.name (decimal (length c.args.curriculum.now.members)) (map (course_name c.args.i.now) c.args.curriculum.now.members)
    (c.in_ok-extend_from_slice.ensures.items ∙ ap (λ w. c.args.text.now.items ++ w) c.as_bytes.ensures)
    (c.in_ok-push_next_number.ensures ∙ ap (λ n. c.extend_from_slice.new.self.items ++ 32 ∷ decimal n) c.len.ensures)
    (c.in_ok-push_members.ensures ∙ ap (λ ms. c.push_next_number.new.text.items ++ behind_blanks (map (course_name c.args.i.now) ms)) c.as_slice.ensures)
    c.in_ok-extend_from_slice-2.ensures.items
