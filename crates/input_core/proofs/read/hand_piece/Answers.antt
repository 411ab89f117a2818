use Rattle.std.proofs.Common.{arith}
use Rattle.input_core.proofs.ReadLemmas.{TakesPiece-from}
use Rattle.input_core.proofs.read.hand_piece.Goals as goal

pub returns-in_ok-take-in-Ok-2-clause-handed : goal.returns-in_ok-take-in-Ok-2-clause-handed
returns-in_ok-take-in-Ok-2-clause-handed g c =
    let s = g.S.Shelf in
    let shelf = c.args.shelf.now in
    TakesPiece-from (s.tells shelf) (s.held shelf c.args.name.now) c.args.limit c.args.done c.in-Ok.count c.piece.new.buf (g.T.Taker.stands c.args.taker.now) (g.T.Taker.stands c.take.new.self)
    c.in-Ok.ensures.bytes c.in-Ok.ensures.within (omega arith) (omega arith) (omega arith) (omega arith) c.in_ok-take-in-Ok-2.ensures.stands
