use Rattle.std.proofs.Common.{arith}
use Rattle.problem_core.proofs.TakenLemmas.{marked, unmarked}
use Rattle.problem_core.proofs.greedy.take_room.Goals as goal

pub returns-then-entry-ne0-clause-taken : goal.returns-then-entry-ne0-clause-taken
returns-then-entry-ne0-clause-taken c a b taken is whole =
    marked c.args.p.now a b c.args.event c.args.entry _ _ _ c.args.taken.now c.mark.new.taken whole is (omega arith) c.requires.known_room c.takes-slot.ensures.slots c.slot_count-slots.ensures.count
    c.mark.ensures.grid taken

pub returns-else-entry-ne0-clause-taken : goal.returns-else-entry-ne0-clause-taken
returns-else-entry-ne0-clause-taken c a b taken is whole = unmarked c.args.p.now a b c.args.event c.args.entry c.args.taken.now whole is c.if-entry-ne0.false taken
