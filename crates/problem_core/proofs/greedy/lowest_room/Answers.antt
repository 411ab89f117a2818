use Rattle.std.proofs.Common.{◌∙◌, sym, arith, length}
use Rattle.numbers.specs.Below.{first_from_no, first_from_yes}
use Rattle.problem_core.specs.FirstChoice.{can_take}
use Rattle.problem_core.proofs.greedy.lowest_room.Goals as goal

pub returns-then-can_take-clause-lowest : goal.returns-then-can_take-clause-lowest
returns-then-can_take-clause-lowest c a is =
    sym (c.loop-room.invariant a is ∙ first_from_yes (can_take c.args.p.now a c.args.event) c.loop-room.room (length c.args.p.now.capacity) (omega arith) (sym (c.can_take.ensures a is) ∙ c.if-can_take.true))

pub loop-room-preserved : goal.loop-room-preserved
loop-room-preserved c a is =
    c.loop-room.invariant a is ∙ first_from_no (can_take c.args.p.now a c.args.event) c.loop-room.room (length c.args.p.now.capacity) (omega arith) (sym (c.can_take.ensures a is) ∙ c.if-can_take.false)
