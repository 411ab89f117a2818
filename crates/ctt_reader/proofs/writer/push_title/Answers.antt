use Rattle.std.specs.Prelude.{codes}
use Rattle.std.proofs.Common.{arith}
use Rattle.std.proofs.lemmas.List.{drop_all}
use Rattle.ctt_reader.proofs.WriteLemmas.{line-of}
use Rattle.ctt_reader.proofs.writer.push_title.Goals as goal

pub returns : goal.returns
returns c =
    line-of c.args.text.now.items c.loop-word.text.items c.extend_from_slice-2.new.self.items (codes "Name:") c.args.title.now _ (drop_all c.loop-word.word-index c.args.title.now (omega arith)) c.loop-word.invariant
    c.in_ok-extend_from_slice-2.ensures.items
