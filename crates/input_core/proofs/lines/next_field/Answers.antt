use Rattle.std.proofs.Common.{arith}
use Rattle.input_core.proofs.LineLemmas.{IsNextField-from, fields_none}
use Rattle.input_core.proofs.lines.next_field.Goals as goal

pub returns : goal.returns
returns c =
    let field = c.split_at-2.ensures.back in
    IsNextField-from c.args.line.now c.args.at c.blanks.result c.length_to_blank.result c.requires.within (rw c.split_at.ensures.back at c.blanks.ensures.count) (omega arith)
    (rw field at c.length_to_blank.ensures.count) (rw field at c.length_to_blank.ensures.within) c.requires.allowed

pub returns-then-from-line : goal.returns-then-from-line
returns-then-from-line c = fields_none c.args.line.now c.args.at c.blanks.result c.requires.within (rw c.split_at.ensures.back at c.blanks.ensures.count) c.if-from-line.true
