use Rattle.room_model.proofs.TakenLemmas.{row_within, ends_within, found_is, none_is}
use Rattle.room_model.proofs.long.fault_after.Goals as goal

pub is_taken-requires-clause-there : goal.is_taken-requires-clause-there
is_taken-requires-clause-there c =
    row_within c.args.calendar.now.instance c.args.before.now c.args.calendar.now.measures c.args.taken.now c.event-event.result.course c.slots-slots.result c.requires.taken c.slots-slots.ensures.slots c.event-event.ensures.known

pub is_taken-requires-clause-within : goal.is_taken-requires-clause-within
is_taken-requires-clause-within c =
    ends_within c.args.calendar.now.instance c.args.calendar.now.measures c.args.meeting c.event-event.result c.periods.result c.slots-slots.result c.requires.known c.event-event.ensures.event c.periods.ensures.periods c.slots-slots.ensures.slots c.if-periods-meeting.false

pub returns-then-is_taken : goal.returns-then-is_taken
returns-then-is_taken c =
    found_is c.args.calendar.now.instance c.args.calendar.now.measures c.args.before.now c.args.meeting c.event-event.result c.periods.result c.first_overlapping.result c.overlap_of.result c.event-event.ensures.event c.periods.ensures.periods
    c.if-periods-meeting.false c.first_overlapping.ensures.found c.overlap_of.ensures

pub returns-else-is_taken : goal.returns-else-is_taken
returns-else-is_taken c =
    none_is c.args.calendar.now.instance c.args.calendar.now.measures c.args.before.now c.args.meeting c.args.taken.now c.event-event.result c.periods.result c.slots-slots.result c.is_taken.result c.requires.known c.event-event.ensures.event
    c.periods.ensures.periods c.slots-slots.ensures.slots c.if-periods-meeting.false c.requires.taken c.is_taken.ensures c.if-is_taken.false
