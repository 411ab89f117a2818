use Rattle.std.proofs.Common.{refl, subst}
use Rattle.run_core.specs.Outside.{shelved}
use Rattle.tool_core.specs.Inputs.{AreGiven, AreRefused, LoadFails}
use Rattle.tool_core.proofs.StopLaws.{load_stopping}
use Rattle.rooms_cmd.specs.Steps.{ReportedRooms}
use Rattle.rooms_cmd.specs.Reporting.{ReportExplains}
use Rattle.rooms_cmd.proofs.AnswerLaws.{answer_weaker, names_are}
use Rattle.rooms_cmd.proofs.ReportLaws.{report_answer}
use Rattle.rooms_cmd.proofs.report.report.Goals as goal

pub returns-in-Ok-clause-answers : goal.returns-in-Ok-clause-answers
returns-in-Ok-clause-answers g c =
    let s = shelved g.S.Shelf.tells g.S.Shelf.held g.S.Shelf.piece_faults g.S.Shelf.put_faults c.args.shelf.now c.load_files.new.shelf in
    let i = c.in-Ok.inputs in
    let given = subst (λ f. AreGiven s.told f i.instance i.times i.measures) (names_are c.args.names.now _ _ _ c.as_str.ensures c.as_str-2.ensures c.as_str-3.ensures) c.in-Ok.ensures.given in
    answer_weaker (ReportedRooms c.args.json i.instance i.times i.measures) (ReportExplains s c.args.names.now c.args.json) c.judge.result
    (λ text status h. report_answer s c.args.names.now c.args.json i.instance i.times i.measures text status given c.in-Ok.ensures.problem.1 h) c.judge.ensures

pub returns-in-Err-clause-answers : goal.returns-in-Err-clause-answers
returns-in-Err-clause-answers g c =
    let s = shelved g.S.Shelf.tells g.S.Shelf.held g.S.Shelf.piece_faults g.S.Shelf.put_faults c.args.shelf.now c.load_files.new.shelf in
    let fails = subst (λ f. LoadFails s.told f s.reads.before s.reads.now (AreRefused s.told f) c.in-Err.fault) (names_are c.args.names.now _ _ _ c.as_str.ensures c.as_str-2.ensures c.as_str-3.ensures) c.in-Err.ensures.fails in
    load_stopping s.told c.args.names.now s.reads.before s.reads.now (AreRefused s.told c.args.names.now) c.in-Err.fault c.stop_of.result (ReportExplains s c.args.names.now c.args.json)
    (λ file unread. record { file = file; unread = unread; is = refl }) (λ text refused. refused) fails c.stop_of.ensures
