use Rattle.std.proofs.Common.{◌∙◌, ◌≡◌, ◌++◌, [], ap, map}
use Rattle.std.specs.Prelude.{codes}
use Rattle.text_lines.specs.Written.{written}
use Rattle.ctt_reader.specs.Grammar.{ctt_of}
use Rattle.ctt_reader.specs.Writing.{header_lines, section_lines, course_line, room_line, curriculum_line, constraint_line, text_of}
use Rattle.ctt_reader.proofs.FileBackLemmas.{read_back}
use Rattle.ctt_reader.proofs.WriteLemmas.{more-lines, six-joined}
use Rattle.ctt_reader.proofs.writer.write_ctt.Goals as goal

pub returns : goal.returns
returns c =
    let i = c.args.i.now in
    let h = header_lines i in
    let s1 = section_lines (codes "COURSES:") (map course_line i.courses) in
    let s2 = section_lines (codes "ROOMS:") (map room_line i.rooms) in
    let s3 = section_lines (codes "CURRICULA:") (map (curriculum_line i) i.curricula) in
    let s4 = section_lines (codes "UNAVAILABILITY_CONSTRAINTS:") (map (constraint_line i) i.constraints) in
    let s5 = section_lines (codes "END.") [] in
    let first : c.push_header.new.text.items ≡ [] ++ written h = c.in_ok-push_header.ensures ∙ ap (λ b. b ++ written h) c.new-text.ensures.items in
    let d1 = more-lines [] c.push_header.new.text.items c.push_courses.new.text.items h s1 first c.in_ok-push_courses.ensures in
    let d2 = more-lines [] c.push_courses.new.text.items c.push_rooms.new.text.items (h ++ s1) s2 d1 c.in_ok-push_rooms.ensures in
    let d3 = more-lines [] c.push_rooms.new.text.items c.push_curricula.new.text.items ((h ++ s1) ++ s2) s3 d2 c.in_ok-push_curricula.ensures in
    let d4 = more-lines [] c.push_curricula.new.text.items c.push_constraints.new.text.items (((h ++ s1) ++ s2) ++ s3) s4 d3 c.in_ok-push_constraints.ensures in
    let d5 = more-lines [] c.push_constraints.new.text.items c.push_section.new.text.items ((((h ++ s1) ++ s2) ++ s3) ++ s4) s5 d4 c.in_ok-push_section.ensures in
    let whole : c.push_section.new.text.items ≡ text_of i = d5 ∙ ap written (six-joined h s1 s2 s3 s4 s5) in
    record { text = whole; read_back = ap ctt_of whole ∙ read_back i c.requires }
