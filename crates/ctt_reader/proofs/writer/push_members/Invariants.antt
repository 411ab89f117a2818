use Rattle.std.proofs.Common.{◌≡◌, ◌++◌, true, drop, map, length}
use Rattle.text_lines.specs.Written.{behind_blanks}
use Rattle.ctt_reader.specs.Naming.{course_name}
use Rattle.ctt_reader.specs.Promised.{are_members}
use Rattle.ctt_reader.proofs.writer.push_members.Given as goal

abbrev pub invariant-loop-member : goal.invariant-loop-member
invariant-loop-member l = record {
  text : l.text.items ++ behind_blanks (map (course_name l.i) (drop l.member-index l.members)) ≡ l.fn.text.items ++ behind_blanks (map (course_name l.i) l.members);
  known : are_members (length l.i.courses) (drop l.member-index l.members) ≡ true;
}
