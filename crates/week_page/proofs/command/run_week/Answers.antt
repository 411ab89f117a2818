use Rattle.run_core.specs.Outside.{shelved, printed}
use Rattle.run_core.specs.Expected.{words_of}
use Rattle.week_page.proofs.RunLaws.{quiet_answer, complete_run, status_of, write_fault_of}
use Rattle.week_page.proofs.command.run_week.Goals as goal

pub returns-clause-quiet : goal.returns-clause-quiet
returns-clause-quiet g c =
    let s = shelved g.S.Shelf.tells g.S.Shelf.held g.S.Shelf.piece_faults g.S.Shelf.put_faults c.args.shelf.now c.respond.new.shelf in
    let p = printed g.O.Sink.written g.O.Sink.faults g.O.Sink.calls c.args.out.now c.respond.new.out in
    quiet_answer s p (words_of c.args.words.now) c.respond.result c.respond.ensures.ends

pub returns-clause-complete : goal.returns-clause-complete
returns-clause-complete g c =
    let s = shelved g.S.Shelf.tells g.S.Shelf.held g.S.Shelf.piece_faults g.S.Shelf.put_faults c.args.shelf.now c.respond.new.shelf in
    let p = printed g.O.Sink.written g.O.Sink.faults g.O.Sink.calls c.args.out.now c.respond.new.out in
    complete_run s p (words_of c.args.words.now) c.respond.result c.respond.ensures.ends

pub returns-clause-status : goal.returns-clause-status
returns-clause-status g c =
    let s = shelved g.S.Shelf.tells g.S.Shelf.held g.S.Shelf.piece_faults g.S.Shelf.put_faults c.args.shelf.now c.respond.new.shelf in
    let p = printed g.O.Sink.written g.O.Sink.faults g.O.Sink.calls c.args.out.now c.respond.new.out in
    status_of s p (words_of c.args.words.now) c.respond.result c.respond.ensures.ends

pub returns-clause-write_fault : goal.returns-clause-write_fault
returns-clause-write_fault g c =
    let s = shelved g.S.Shelf.tells g.S.Shelf.held g.S.Shelf.piece_faults g.S.Shelf.put_faults c.args.shelf.now c.respond.new.shelf in
    let p = printed g.O.Sink.written g.O.Sink.faults g.O.Sink.calls c.args.out.now c.respond.new.out in
    write_fault_of s p (words_of c.args.words.now) c.respond.result c.respond.ensures.ends
