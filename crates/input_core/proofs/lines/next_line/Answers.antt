use Rattle.std.proofs.Common.{arith}
use Rattle.input_core.proofs.LineLemmas.{IsNextLine-from}
use Rattle.input_core.proofs.lines.next_line.Goals as goal

pub returns : goal.returns
returns c =
    let rest = c.split_at.ensures.back in
    let line = c.split_at-2.ensures.front in
    IsNextLine-from c.args.bytes.now c.args.at c.length_to_feed-len.result c.length_without_return.result c.min-next.result
    (omega arith) (rw rest at c.length_to_feed-len.ensures.count) (rw rest at c.length_to_feed-len.ensures.within) (rw (line, rest) at c.length_without_return.ensures.same) (omega arith) c.min-next.ensures
