use Rattle.std.proofs.Common.{◌≡◌, ◌++◌, drop}
use Rattle.std.specs.Prelude.{codes}
use Rattle.text_lines.specs.Written.{behind_blanks}
use Rattle.ctt_reader.proofs.writer.push_title.Given as goal

abbrev pub invariant-loop-word : goal.invariant-loop-word
invariant-loop-word l = l.text.items ++ behind_blanks (drop l.word-index l.title) ≡ (l.fn.text.items ++ codes "Name:") ++ behind_blanks l.title
