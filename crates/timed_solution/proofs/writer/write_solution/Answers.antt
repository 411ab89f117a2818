use Rattle.std.proofs.Common.{◌∙◌, ap}
use Rattle.timed_solution.specs.Times.{times_of}
use Rattle.timed_solution.specs.Writing.{with_rooms}
use Rattle.timed_solution.proofs.BackLemmas.{times-back, roomed-times, text_is}
use Rattle.timed_solution.proofs.writer.write_solution.Goals as goal

pub returns-in-Ok-clause-read_back : goal.returns-in-Ok-clause-read_back
returns-in-Ok-clause-read_back c =
    ap (times_of c.args.i.now) (text_is c.args.i.now c.args.t.now.meetings c.args.a.now.entries _ _ _ _ c.in-Ok.ensures c.new-text.ensures.items c.as_slice.ensures c.as_slice-2.ensures)
    ∙ times-back c.args.i.now (with_rooms c.args.t.now.meetings c.args.a.now.entries) c.requires.instance
    (roomed-times c.args.i.now c.args.t.now.meetings c.args.a.now.entries c.requires.times c.requires.known)
