use Rattle.std.proofs.Common.{refl, inl}
use Rattle.std.proofs.lemmas.Result.{IfOk-weaker, IfErr-weaker}
use Rattle.run_core.specs.Files.{IsFaultyInstance}
use Rattle.run_core.specs.Outside.{shelved}
use Rattle.run_core.proofs.FileLaws.{file_stopping}
use Rattle.itc_score.specs.Run.{NamesExplain}
use Rattle.itc_score.proofs.RunLaws.{times_explained, times_stopping}
use Rattle.itc_score.proofs.command.score_files.Goals as goal

pub returns-in-Ok-clause-answers : goal.returns-in-Ok-clause-answers
returns-in-Ok-clause-answers g c =
    let s = shelved g.S.Shelf.tells g.S.Shelf.held g.S.Shelf.piece_faults g.S.Shelf.put_faults c.args.shelf.now c.score_solution.new.shelf in
    let s' = shelved g.S.Shelf.tells g.S.Shelf.held g.S.Shelf.piece_faults g.S.Shelf.put_faults c.load_instance.new.shelf c.score_solution.new.shelf in
    let only = c.load_instance.ensures.only in
    let m = c.args.solution_name.now in
    IfOk-weaker c.score_solution.result _ _ (λ a h. times_explained s s' c.args.instance_name.now m c.in-Ok.instance a.text.items a.status only.same_telling (only.same_names m) only.later refl c.in-Ok.ensures.gives h) c.score_solution.ensures.answers

pub returns-in-Ok-clause-stops : goal.returns-in-Ok-clause-stops
returns-in-Ok-clause-stops g c =
    let s = shelved g.S.Shelf.tells g.S.Shelf.held g.S.Shelf.piece_faults g.S.Shelf.put_faults c.args.shelf.now c.score_solution.new.shelf in
    let s' = shelved g.S.Shelf.tells g.S.Shelf.held g.S.Shelf.piece_faults g.S.Shelf.put_faults c.load_instance.new.shelf c.score_solution.new.shelf in
    let only = c.load_instance.ensures.only in
    let m = c.args.solution_name.now in
    IfErr-weaker c.score_solution.result _ _ (λ stop h. times_stopping s s' c.args.instance_name.now m c.in-Ok.instance stop only.same_telling (only.same_names m) only.later refl c.in-Ok.ensures.gives h) c.score_solution.ensures.stops

pub returns-in-Err-clause-stops : goal.returns-in-Err-clause-stops
returns-in-Err-clause-stops g c =
    let s = shelved g.S.Shelf.tells g.S.Shelf.held g.S.Shelf.piece_faults g.S.Shelf.put_faults c.args.shelf.now c.load_instance.new.shelf in
    let n = c.args.instance_name.now in
    file_stopping s.told.tells (s.told.held n) s.reads.before s.reads.now (IsFaultyInstance s.told.tells (s.told.held n)) n c.in-Err.fault c.stop_of.result (NamesExplain s n c.args.solution_name.now)
    (λ unread. inl (unread, refl)) (λ text refused. inl refused) c.in-Err.ensures.fails c.stop_of.ensures
