use Rattle.std.proofs.Common.{refl, inl, subst}
use Rattle.run_core.specs.Outside.{shelved}
use Rattle.tool_core.specs.Inputs.{AreGiven, AreRefusedForModel, LoadFails}
use Rattle.tool_core.proofs.StopLaws.{load_stopping}
use Rattle.rooms_cmd.specs.Checking.{RecertExplains}
use Rattle.rooms_cmd.specs.Steps.{RecertFileExplains}
use Rattle.rooms_cmd.proofs.AnswerLaws.{answer_weaker, names_are, keeps_but, refused_after, reads_later, puts_later}
use Rattle.rooms_cmd.proofs.RecertLaws.{recert_answer}
use Rattle.rooms_cmd.proofs.recert.recert.Goals as goal

pub returns-in-Ok-clause-answers : goal.returns-in-Ok-clause-answers
returns-in-Ok-clause-answers g c =
    let old = c.args.shelf.now in
    let mid = c.load.new.shelf in
    let new = c.recert_file.new.shelf in
    let s = shelved g.S.Shelf.tells g.S.Shelf.held g.S.Shelf.piece_faults g.S.Shelf.put_faults old new in
    let l = c.in-Ok.loaded in
    let given = subst (λ f. AreGiven s.told f l.instance l.times l.measures) (names_are c.args.names.now _ _ _ c.as_str.ensures c.as_str-2.ensures c.as_str-3.ensures) c.in-Ok.ensures.given in
    answer_weaker (RecertFileExplains (shelved g.S.Shelf.tells g.S.Shelf.held g.S.Shelf.piece_faults g.S.Shelf.put_faults mid new) l.model c.args.certificate.now c.args.new.now)
    (RecertExplains s c.args.names.now c.args.certificate.now c.args.new.now) c.recert_file.result
    (λ text status h. recert_answer g.S.Shelf.tells g.S.Shelf.held g.S.Shelf.piece_faults g.S.Shelf.put_faults old mid new c.args.names.now c.args.certificate.now c.args.new.now l.instance l.times l.measures l.model text status
    c.in-Ok.ensures.only given c.in-Ok.ensures.model.1 c.in-Ok.ensures.model.0 h)
    c.recert_file.ensures.answers

pub returns-in-Ok-clause-keeps : goal.returns-in-Ok-clause-keeps
returns-in-Ok-clause-keeps g c = keeps_but g.S.Shelf.tells g.S.Shelf.held g.S.Shelf.piece_faults g.S.Shelf.put_faults _ _ _ c.args.new.now c.in-Ok.ensures.only c.recert_file.ensures.keeps

pub returns-in-Ok-clause-refused : goal.returns-in-Ok-clause-refused
returns-in-Ok-clause-refused g c = refused_after g.S.Shelf.tells g.S.Shelf.held g.S.Shelf.piece_faults g.S.Shelf.put_faults _ _ _ c.recert_file.result c.in-Ok.ensures.only c.recert_file.ensures.refused

pub returns-in-Ok-clause-reads : goal.returns-in-Ok-clause-reads
returns-in-Ok-clause-reads g c = reads_later _ _ _ c.recert_file.result c.in-Ok.ensures.calls c.recert_file.ensures.reads

pub returns-in-Ok-clause-puts : goal.returns-in-Ok-clause-puts
returns-in-Ok-clause-puts g c = puts_later _ _ _ c.recert_file.result c.in-Ok.ensures.only.same_puts c.recert_file.ensures.puts

pub returns-in-Err-clause-answers : goal.returns-in-Err-clause-answers
returns-in-Err-clause-answers g c =
    let s = shelved g.S.Shelf.tells g.S.Shelf.held g.S.Shelf.piece_faults g.S.Shelf.put_faults c.args.shelf.now c.load.new.shelf in
    let fails = subst (λ f. LoadFails s.told f s.reads.before s.reads.now (AreRefusedForModel s.told f) c.in-Err.fault) (names_are c.args.names.now _ _ _ c.as_str.ensures c.as_str-2.ensures c.as_str-3.ensures) c.in-Err.ensures.fails in
    load_stopping s.told c.args.names.now s.reads.before s.reads.now (AreRefusedForModel s.told c.args.names.now) c.in-Err.fault c.stop_of.result (RecertExplains s c.args.names.now c.args.certificate.now c.args.new.now)
    (λ file unread. inl (record { file = file; unread = unread; is = refl })) (λ text refused. inl refused) fails c.stop_of.ensures
