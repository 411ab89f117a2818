use Rattle.std.proofs.Common.{sym, subst}
use Rattle.input_core.specs.Reading.{IsWhole}
use Rattle.run_core.specs.Outside.{shelved}
use Rattle.rooms_cmd.specs.Checking.{certificate_limit}
use Rattle.rooms_cmd.specs.Steps.{BytesExplain, RecertFileExplains}
use Rattle.rooms_cmd.proofs.AnswerLaws.{answer_weaker}
use Rattle.rooms_cmd.proofs.RecertLaws.{bytes_answer}
use Rattle.rooms_cmd.proofs.recert.recert_file.Goals as goal

pub returns-in-Ok-clause-answers : goal.returns-in-Ok-clause-answers
returns-in-Ok-clause-answers g c =
    let old = c.args.shelf.now in
    let mid = c.read_all.new.shelf in
    let new = c.recert_bytes.new.shelf in
    let bytes = c.as_slice.result.now in
    let p = c.args.model.now in
    let whole = subst (IsWhole (g.S.Shelf.tells old) (g.S.Shelf.held old c.args.certificate.now) certificate_limit) (sym c.as_slice.ensures.value) c.in-Ok.ensures.bytes in
    answer_weaker (BytesExplain (shelved g.S.Shelf.tells g.S.Shelf.held g.S.Shelf.piece_faults g.S.Shelf.put_faults mid new) p bytes c.args.new.now)
    (RecertFileExplains (shelved g.S.Shelf.tells g.S.Shelf.held g.S.Shelf.piece_faults g.S.Shelf.put_faults old new) p c.args.certificate.now c.args.new.now) c.recert_bytes.result
    (λ text status h. bytes_answer g.S.Shelf.tells g.S.Shelf.held g.S.Shelf.piece_faults g.S.Shelf.put_faults old mid new p c.args.certificate.now c.args.new.now bytes text status c.in-Ok.ensures.only whole h)
    c.recert_bytes.ensures.answers
