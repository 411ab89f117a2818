use Rattle.std.proofs.Common.{length, ◌∙◌}
use Rattle.itc_score.proofs.LineLemmas.{rooms-known, rooms-are}
use Rattle.itc_score.proofs.scoring.stability.Goals as goal

pub marked-requires-clause-known : goal.marked-requires-clause-known
marked-requires-clause-known c = rw (c.as_slice.ensures.value, c.in_ok-pairs.ensures, c.len.ensures, c.len-2.ensures) (rooms-known (length c.args.i.now.courses) (length c.args.i.now.rooms) c.args.lines.now c.requires.lines)

pub returns-clause-value : goal.returns-clause-value
returns-clause-value c = c.further_rooms.ensures.value ∙ rw (c.len-3.ensures, c.len-4.ensures, c.deref.ensures.value) (rooms-are c.args.i.now c.args.lines.now c.as_slice.result.now c.in_ok-used.used.items c.len.result c.len-2.result c.len.ensures c.len-2.ensures (c.as_slice.ensures.value ∙ c.in_ok-pairs.ensures) c.in_ok-used.ensures)
