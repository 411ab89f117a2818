use Rattle.std.proofs.Common.{sym, subst}
use Rattle.run_core.specs.Calls.{NoReadFailed, NoWriteFailed, WritesOnce}
use Rattle.run_core.specs.Ends.{RunEnds}
use Rattle.run_core.specs.Expected.{words_of}
use Rattle.run_core.specs.Outside.{shelved, printed}
use Rattle.itc_score.specs.Run.{Explains}
use Rattle.itc_score.proofs.RunLaws.{status_of}
use Rattle.itc_score.proofs.command.respond.Goals as goal

pub score_status-requires : goal.score_status-requires
score_status-requires g c =
    let s = shelved g.S.Shelf.tells g.S.Shelf.held g.S.Shelf.piece_faults g.S.Shelf.put_faults c.args.shelf.now c.print_answer.new.shelf in
    let p = printed g.O.Sink.written g.O.Sink.faults g.O.Sink.calls c.args.out.now c.print_answer.new.out in
    status_of s p (words_of c.args.words.now) c.print_answer.result c.print_answer.ensures.ends

pub returns-clause-ends : goal.returns-clause-ends
returns-clause-ends g c =
    let s = shelved g.S.Shelf.tells g.S.Shelf.held g.S.Shelf.piece_faults g.S.Shelf.put_faults c.args.shelf.now c.print_answer.new.shelf in
    let p = printed g.O.Sink.written g.O.Sink.faults g.O.Sink.calls c.args.out.now c.print_answer.new.out in
    subst (RunEnds p (Explains s (words_of c.args.words.now))) (sym c.score_status.ensures) c.print_answer.ensures.ends

pub returns-clause-no_read_failed : goal.returns-clause-no_read_failed
returns-clause-no_read_failed g c = subst (NoReadFailed _ _) (sym c.score_status.ensures) c.print_answer.ensures.no_read_failed

pub returns-clause-no_write_failed : goal.returns-clause-no_write_failed
returns-clause-no_write_failed g c = subst (NoWriteFailed _ _) (sym c.score_status.ensures) c.print_answer.ensures.no_write_failed

pub returns-clause-one_write : goal.returns-clause-one_write
returns-clause-one_write g c = subst (WritesOnce _ _) (sym c.score_status.ensures) c.print_answer.ensures.one_write
