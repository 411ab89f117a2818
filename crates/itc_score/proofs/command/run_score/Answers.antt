use Rattle.run_core.specs.Outside.{shelved, printed}
use Rattle.run_core.specs.Expected.{words_of}
use Rattle.itc_score.specs.Statuses.{tool_status}
use Rattle.itc_score.proofs.RunLaws.{quiet_answer, complete_run, write_fault_of}
use Rattle.itc_score.proofs.command.run_score.Goals as goal

pub returns-clause-quiet : goal.returns-clause-quiet
returns-clause-quiet g c =
    let s = shelved g.S.Shelf.tells g.S.Shelf.held g.S.Shelf.piece_faults g.S.Shelf.put_faults c.args.shelf.now c.respond.new.shelf in
    let p = printed g.O.Sink.written g.O.Sink.faults g.O.Sink.calls c.args.out.now c.respond.new.out in
    quiet_answer s p (words_of c.args.words.now) (tool_status c.respond.result) c.respond.ensures.ends

pub returns-clause-complete : goal.returns-clause-complete
returns-clause-complete g c =
    let s = shelved g.S.Shelf.tells g.S.Shelf.held g.S.Shelf.piece_faults g.S.Shelf.put_faults c.args.shelf.now c.respond.new.shelf in
    let p = printed g.O.Sink.written g.O.Sink.faults g.O.Sink.calls c.args.out.now c.respond.new.out in
    complete_run s p (words_of c.args.words.now) c.respond.result c.respond.ensures.ends

pub returns-clause-write_fault : goal.returns-clause-write_fault
returns-clause-write_fault g c =
    let s = shelved g.S.Shelf.tells g.S.Shelf.held g.S.Shelf.piece_faults g.S.Shelf.put_faults c.args.shelf.now c.respond.new.shelf in
    let p = printed g.O.Sink.written g.O.Sink.faults g.O.Sink.calls c.args.out.now c.respond.new.out in
    write_fault_of s p (words_of c.args.words.now) c.respond.result c.respond.ensures.ends
