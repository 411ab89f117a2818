use Rattle.std.proofs.Common.{◌∙◌, ◌≤◌, sym, ap, arith, length}
use Rattle.meeting_patterns.proofs.MaskLemmas.{nth_event, masks_same, count_more, count_few}
use Rattle.meeting_patterns.proofs.set.count_in_room.Goals.{then-suits, else-suits}
use Rattle.meeting_patterns.proofs.set.count_in_room.Goals as goal

pub suits-requires-clause-known_event : goal.suits-requires-clause-known_event
suits-requires-clause-known_event c =
    (nth_event c.args.p.now c.args.course c.loop-event.event-index c.events_of-event-items.result.now c.events_of-event-items.ensures.events c.loop-event-test.true).below

pub overflow_mul-count : goal.overflow_mul-count
overflow_mul-count c =
    let few : c.loop-event.count ≤ 4096 = count_few c.args.p.now c.args.course c.args.room c.loop-event.event-index c.loop-event.count (omega arith) c.loop-event.invariant in
    omega arith

pub overflow_add-count : goal.overflow_add-count
overflow_add-count c =
    let few : c.loop-event.count ≤ 4096 = count_few c.args.p.now c.args.course c.args.room c.loop-event.event-index c.loop-event.count (omega arith) c.loop-event.invariant in
    omega arith

pub loop-event-preserved : goal.loop-event-preserved
loop-event-preserved c =
    let nth = nth_event c.args.p.now c.args.course c.loop-event.event-index c.events_of-event-items.result.now c.events_of-event-items.ensures.events c.loop-event-test.true in
    elim c.if-suits.branch [
      | then-suits w ↦ omega (arith, count_more c.args.p.now c.args.course c.args.room c.loop-event.event-index _ nth (sym c.suits.ensures ∙ w.if-suits.true), w.count-is, c.loop-event.invariant)
      | else-suits w ↦ w.count-is ∙ c.loop-event.invariant ∙ sym (ap length (masks_same c.args.p.now c.args.course c.args.room c.loop-event.event-index _ nth (sym c.suits.ensures ∙ w.if-suits.false)))
    ]

pub returns-clause-few : goal.returns-clause-few
returns-clause-few c = count_few c.args.p.now c.args.course c.args.room c.loop-event.event-index c.loop-event.count (omega arith) c.loop-event.invariant
