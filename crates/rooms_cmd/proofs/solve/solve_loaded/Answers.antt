use Rattle.run_core.specs.Outside.{shelved}
use Rattle.rooms_cmd.specs.Steps.{PutExplains, FoundExplains}
use Rattle.rooms_cmd.specs.Work.{work}
use Rattle.rooms_cmd.proofs.AnswerLaws.{answer_weaker}
use Rattle.rooms_cmd.proofs.SolveLaws.{put_found}
use Rattle.rooms_cmd.proofs.solve.solve_loaded.Goals as goal

pub returns-clause-answers : goal.returns-clause-answers
returns-clause-answers g c =
    let s = shelved g.S.Shelf.tells g.S.Shelf.held g.S.Shelf.piece_faults g.S.Shelf.put_faults c.args.shelf.now c.put.new.shelf in
    let w = work g.A.Arith.wides c.args.arith.now c.search.new.arith c.args.steps.now c.search.new.steps in
    let l = c.args.loaded.now in
    let d = c.in_ok-draft.draft in
    answer_weaker (PutExplains s d c.args.certificate.now) (FoundExplains s w l.model l.instance l.times c.args.budget c.args.certificate.now) c.put.result
    (λ text status h. put_found s w l.model l.instance l.times c.args.budget c.args.certificate.now text status d c.in_ok-draft.ensures h) c.put.ensures.answers
