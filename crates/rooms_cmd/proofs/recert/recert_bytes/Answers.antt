use Rattle.run_core.specs.Outside.{shelved}
use Rattle.rooms_cmd.specs.Steps.{PutExplains, BytesExplain}
use Rattle.rooms_cmd.proofs.AnswerLaws.{answer_weaker}
use Rattle.rooms_cmd.proofs.CheckLaws.{values_within}
use Rattle.rooms_cmd.proofs.RecertLaws.{shared_answer}
use Rattle.rooms_cmd.proofs.recert.recert_bytes.Goals as goal

pub shared_draft-requires-clause-small : goal.shared_draft-requires-clause-small
shared_draft-requires-clause-small g c = values_within c.args.model.now c.args.bytes.now c.in_ok-levels.field-0 c.in-Verified.levels c.in-Verified.values c.in-Verified.is c.in_ok-levels.ensures.means

pub returns-in_ok-shared_draft-in-Verified-clause-answers : goal.returns-in_ok-shared_draft-in-Verified-clause-answers
returns-in_ok-shared_draft-in-Verified-clause-answers g c =
    let s = shelved g.S.Shelf.tells g.S.Shelf.held g.S.Shelf.piece_faults g.S.Shelf.put_faults c.args.shelf.now c.put.new.shelf in
    let d = c.in_ok-shared_draft-in-Verified.field-0 in
    answer_weaker (PutExplains s d c.args.new.now) (BytesExplain s c.args.model.now c.args.bytes.now c.args.new.now) c.put.result
    (λ text status h. shared_answer s c.args.model.now c.args.bytes.now c.args.new.now text status d c.in_ok-levels.field-0 c.in-Verified.levels c.in-Verified.values
    c.share_laws.ensures.one c.share_laws.ensures.writable c.share_laws.ensures.first c.in-Verified.is c.in_ok-levels.ensures.exact c.in_ok-levels.ensures.means c.in_ok-shared_draft-in-Verified.ensures h)
    c.put.ensures.answers
