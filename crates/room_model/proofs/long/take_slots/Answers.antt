use Rattle.std.proofs.Common.{◌*◌, length, subst, sym}
use Rattle.std.specs.List.{list_any}
use Rattle.problem_core.specs.Tables.{IsGrid}
use Rattle.room_model.specs.Taken.{has_slot}
use Rattle.room_model.proofs.TakenLemmas.{row_there, taken_more}
use Rattle.room_model.proofs.long.take_slots.Goals as goal

pub mark-requires-clause-there : goal.mark-requires-clause-there
mark-requires-clause-there c =
    row_there c.args.taken.now (length c.args.calendar.now.instance.courses) c.event-event.result.course c.slots.result (c.args.calendar.now.instance.days * c.args.calendar.now.instance.periods) c.requires.whole c.slots.ensures.slots c.event-event.ensures.known

pub returns-clause-taken : goal.returns-clause-taken
returns-clause-taken c before are =
    let i = c.args.calendar.now.instance in
    let m = c.args.calendar.now.measures in
    let old = subst (λ n. IsGrid c.args.taken.now (length i.courses) n (λ r t. list_any (has_slot i m r t) before)) (sym c.slots.ensures.slots) are in
    taken_more i m before c.args.meeting c.event-event.result c.mark.new.taken c.slots.result c.event-event.ensures.event c.slots.ensures.slots
    (c.mark.ensures.grid (length i.courses) (λ r t. list_any (has_slot i m r t) before) c.event-event.ensures.known old)
