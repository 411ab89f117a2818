use Rattle.std.proofs.Common.{refl, inl, subst}
use Rattle.input_core.proofs.ReadLemmas.{OnlyReads-then}
use Rattle.run_core.specs.Outside.{shelved}
use Rattle.tool_core.specs.Inputs.{AreGiven, AreRefusedForModel, LoadFails}
use Rattle.tool_core.proofs.StopLaws.{load_stopping}
use Rattle.rooms_cmd.specs.Checking.{CheckExplains}
use Rattle.rooms_cmd.specs.Steps.{FileExplains}
use Rattle.rooms_cmd.proofs.AnswerLaws.{answer_weaker, names_are, reads_later}
use Rattle.rooms_cmd.proofs.CheckLaws.{check_answer}
use Rattle.rooms_cmd.proofs.check.check.Goals as goal

pub returns-in-Ok-clause-answers : goal.returns-in-Ok-clause-answers
returns-in-Ok-clause-answers g c =
    let s = shelved g.S.Shelf.tells g.S.Shelf.held g.S.Shelf.piece_faults g.S.Shelf.put_faults c.args.shelf.now c.check_file.new.shelf in
    let mid = c.load.new.shelf in
    let name = c.args.certificate.now in
    let l = c.in-Ok.loaded in
    let given = subst (λ f. AreGiven s.told f l.instance l.times l.measures) (names_are c.args.names.now _ _ _ c.as_str.ensures c.as_str-2.ensures c.as_str-3.ensures) c.in-Ok.ensures.given in
    answer_weaker (FileExplains (g.S.Shelf.tells mid) (g.S.Shelf.held mid name) (g.S.Shelf.piece_faults mid) (g.S.Shelf.piece_faults c.check_file.new.shelf) l.model name) (CheckExplains s c.args.names.now name) c.check_file.result
    (λ text status h. check_answer g.S.Shelf.tells g.S.Shelf.held g.S.Shelf.piece_faults g.S.Shelf.put_faults c.args.shelf.now mid c.check_file.new.shelf c.args.names.now name l.instance l.times l.measures l.model text status
    c.in-Ok.ensures.only given c.in-Ok.ensures.model.1 c.in-Ok.ensures.model.0 h)
    c.check_file.ensures.answers

pub returns-in-Ok-clause-reads : goal.returns-in-Ok-clause-reads
returns-in-Ok-clause-reads g c = reads_later _ _ _ c.check_file.result c.in-Ok.ensures.calls c.check_file.ensures.reads

pub returns-in-Ok-clause-only : goal.returns-in-Ok-clause-only
returns-in-Ok-clause-only g c = OnlyReads-then _ _ _ _ _ _ _ c.in-Ok.ensures.only c.check_file.ensures.only

pub returns-in-Err-clause-answers : goal.returns-in-Err-clause-answers
returns-in-Err-clause-answers g c =
    let s = shelved g.S.Shelf.tells g.S.Shelf.held g.S.Shelf.piece_faults g.S.Shelf.put_faults c.args.shelf.now c.load.new.shelf in
    let fails = subst (λ f. LoadFails s.told f s.reads.before s.reads.now (AreRefusedForModel s.told f) c.in-Err.fault) (names_are c.args.names.now _ _ _ c.as_str.ensures c.as_str-2.ensures c.as_str-3.ensures) c.in-Err.ensures.fails in
    load_stopping s.told c.args.names.now s.reads.before s.reads.now (AreRefusedForModel s.told c.args.names.now) c.in-Err.fault c.stop_of.result (CheckExplains s c.args.names.now c.args.certificate.now)
    (λ file unread. inl (record { file = file; unread = unread; is = refl })) (λ text refused. inl refused) fails c.stop_of.ensures
