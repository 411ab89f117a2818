use Rattle.std.proofs.Common.{refl}
use Rattle.cert_text.specs.declared.place.Place.TheVariants.{Head}
use Rattle.cert_text.proofs.PieceLaws.{pieces_begin}
use Rattle.cert_text.proofs.pieces.Pieces.new.Goals as goal

pub returns-clause-pieces : goal.returns-clause-pieces
returns-clause-pieces c = pieces_begin (record { place = Head; named = c.new.result; rest = c.new-2.result; line = 1 }) refl c.new.ensures c.new-2.ensures refl
