use Rattle.std.proofs.Common.{refl, inl, subst, ◌∙◌}
use Rattle.run_core.specs.Outside.{shelved}
use Rattle.tool_core.specs.Inputs.{AreGiven, AreRefusedForModel, LoadFails}
use Rattle.tool_core.proofs.StopLaws.{load_stopping}
use Rattle.rooms_cmd.specs.Run.{KeepsWhereRefused}
use Rattle.rooms_cmd.specs.Solving.{SolveExplains}
use Rattle.rooms_cmd.specs.Steps.{FoundExplains}
use Rattle.rooms_cmd.specs.Work.{work}
use Rattle.rooms_cmd.proofs.AnswerLaws.{answer_weaker, names_are, keeps_but, status_reads, puts_later}
use Rattle.rooms_cmd.proofs.SolveLaws.{solve_answer, found_refused}
use Rattle.rooms_cmd.proofs.solve.solve.Goals as goal

pub returns-in-Ok-clause-answers : goal.returns-in-Ok-clause-answers
returns-in-Ok-clause-answers g c =
    let old = c.args.shelf.now in
    let mid = c.load.new.shelf in
    let new = c.solve_loaded.new.shelf in
    let s = shelved g.S.Shelf.tells g.S.Shelf.held g.S.Shelf.piece_faults g.S.Shelf.put_faults old new in
    let w = work g.A.Arith.wides c.args.arith.now c.solve_loaded.new.arith c.args.steps.now c.solve_loaded.new.steps in
    let l = c.in-Ok.loaded in
    let given = subst (λ f. AreGiven s.told f l.instance l.times l.measures) (names_are c.args.names.now _ _ _ c.as_str.ensures c.as_str-2.ensures c.as_str-3.ensures) c.in-Ok.ensures.given in
    answer_weaker (FoundExplains (shelved g.S.Shelf.tells g.S.Shelf.held g.S.Shelf.piece_faults g.S.Shelf.put_faults mid new) w l.model l.instance l.times c.args.budget c.args.certificate.now)
    (SolveExplains s w c.args.names.now c.args.certificate.now c.args.budget) c.solve_loaded.result
    (λ text status h. solve_answer g.S.Shelf.tells g.S.Shelf.held g.S.Shelf.piece_faults g.S.Shelf.put_faults old mid new w c.args.names.now c.args.certificate.now c.args.budget l.instance l.times l.measures l.model text status
    c.in-Ok.ensures.only given c.in-Ok.ensures.model.1 c.in-Ok.ensures.model.0 h)
    c.solve_loaded.ensures.answers

pub returns-in-Ok-clause-keeps : goal.returns-in-Ok-clause-keeps
returns-in-Ok-clause-keeps g c = keeps_but g.S.Shelf.tells g.S.Shelf.held g.S.Shelf.piece_faults g.S.Shelf.put_faults _ _ _ c.args.certificate.now c.in-Ok.ensures.only c.solve_loaded.ensures.keeps

pub returns-in-Ok-clause-refused : goal.returns-in-Ok-clause-refused
returns-in-Ok-clause-refused g c =
    let old = c.args.shelf.now in
    let mid = c.load.new.shelf in
    let new = c.solve_loaded.new.shelf in
    let s = shelved g.S.Shelf.tells g.S.Shelf.held g.S.Shelf.piece_faults g.S.Shelf.put_faults old new in
    let found = shelved g.S.Shelf.tells g.S.Shelf.held g.S.Shelf.piece_faults g.S.Shelf.put_faults mid new in
    let w = work g.A.Arith.wides c.args.arith.now c.solve_loaded.new.arith c.args.steps.now c.solve_loaded.new.steps in
    let l = c.in-Ok.loaded in
    answer_weaker (FoundExplains found w l.model l.instance l.times c.args.budget c.args.certificate.now) (λ text status. KeepsWhereRefused s status) c.solve_loaded.result
    (λ text status h. found_refused found s w l.model l.instance l.times c.args.budget c.args.certificate.now text status h) c.solve_loaded.ensures.answers

pub returns-in-Ok-clause-reads : goal.returns-in-Ok-clause-reads
returns-in-Ok-clause-reads g c = status_reads _ _ c.solve_loaded.result (c.solve_loaded.ensures.reads ∙ c.in-Ok.ensures.calls)

pub returns-in-Ok-clause-puts : goal.returns-in-Ok-clause-puts
returns-in-Ok-clause-puts g c = puts_later _ _ _ c.solve_loaded.result c.in-Ok.ensures.only.same_puts c.solve_loaded.ensures.puts

pub returns-in-Err-clause-answers : goal.returns-in-Err-clause-answers
returns-in-Err-clause-answers g c =
    let s = shelved g.S.Shelf.tells g.S.Shelf.held g.S.Shelf.piece_faults g.S.Shelf.put_faults c.args.shelf.now c.load.new.shelf in
    let w = work g.A.Arith.wides c.args.arith.now c.args.arith.now c.args.steps.now c.args.steps.now in
    let fails = subst (λ f. LoadFails s.told f s.reads.before s.reads.now (AreRefusedForModel s.told f) c.in-Err.fault) (names_are c.args.names.now _ _ _ c.as_str.ensures c.as_str-2.ensures c.as_str-3.ensures) c.in-Err.ensures.fails in
    load_stopping s.told c.args.names.now s.reads.before s.reads.now (AreRefusedForModel s.told c.args.names.now) c.in-Err.fault c.stop_of.result (SolveExplains s w c.args.names.now c.args.certificate.now c.args.budget)
    (λ file unread. record { file = file; unread = unread; is = refl }) (λ text refused. refused) fails c.stop_of.ensures
