use Rattle.std.proofs.Common.{◌∙◌, ◌++◌, sym, ap}
use Rattle.std.specs.Prelude.{map}
use Rattle.meeting_patterns.specs.Pattern.{pattern}
use Rattle.meeting_patterns.proofs.BitLemmas.{bit_few}
use Rattle.meeting_patterns.proofs.MaskLemmas.{nth_event, bit_is, earlier_less, patterns_more, masks_same}
use Rattle.meeting_patterns.proofs.set.add_room.Goals.{then-suits+in_ok-add_meeting, else-suits}
use Rattle.meeting_patterns.proofs.set.add_room.Goals as goal

pub suits-requires-clause-known_event : goal.suits-requires-clause-known_event
suits-requires-clause-known_event c =
    (nth_event c.args.p.now c.args.course c.loop-event.event-index c.events_of-event-items.result.now c.events_of-event-items.ensures.events c.loop-event-test.true).below

pub place_of-requires : goal.place_of-requires
place_of-requires c =
    (nth_event c.args.p.now c.args.course c.loop-event.event-index c.events_of-event-items.result.now c.events_of-event-items.ensures.events c.loop-event-test.true).below

pub add_meeting-requires-clause-small : goal.add_meeting-requires-clause-small
add_meeting-requires-clause-small c = bit_few c.place_of.result c.place_of.ensures.few

pub add_meeting-requires-clause-earlier : goal.add_meeting-requires-clause-earlier
add_meeting-requires-clause-earlier c =
    let nth = nth_event c.args.p.now c.args.course c.loop-event.event-index c.events_of-event-items.result.now c.events_of-event-items.ensures.events c.loop-event-test.true in
    let bit = bit_is c.args.p.now c.args.course c.loop-event.event-index _ c.place_of.result nth c.place_of.ensures.place c.place_of.ensures.few in
    λ i low high. earlier_less c.args.p.now c.args.course c.args.room c.loop-event.event-index _ c.len-first.result i c.args.patterns.now c.loop-event.patterns bit c.len-first.ensures c.loop-event.invariant low high

pub loop-event-preserved : goal.loop-event-preserved
loop-event-preserved c =
    let nth = nth_event c.args.p.now c.args.course c.loop-event.event-index c.events_of-event-items.result.now c.events_of-event-items.ensures.events c.loop-event-test.true in
    elim c.if-suits.branch [
      | then-suits+in_ok-add_meeting w ↦
          w.patterns-is
          ∙ patterns_more c.args.p.now c.args.course c.args.room c.loop-event.event-index _ _ c.len-first.result c.args.patterns.now c.loop-event.patterns _ nth (sym c.suits.ensures ∙ w.if-suits.true)
          (bit_is c.args.p.now c.args.course c.loop-event.event-index _ w.place_of.result nth w.place_of.ensures.place w.place_of.ensures.few) c.len-first.ensures c.loop-event.invariant w.in_ok-add_meeting.ensures
      | else-suits w ↦
          w.patterns-is ∙ c.loop-event.invariant
          ∙ ap (λ ms. c.args.patterns.now ++ map (pattern c.args.course c.args.room) ms) (sym (masks_same c.args.p.now c.args.course c.args.room c.loop-event.event-index _ nth (sym c.suits.ensures ∙ w.if-suits.false)))
    ]
