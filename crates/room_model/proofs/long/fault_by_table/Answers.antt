use Rattle.std.proofs.Common.{◌∙◌, arith, subst, sym, take}
use Rattle.timed_solution.specs.Times.{is_meeting}
use Rattle.timed_solution.specs.declared.times.Meeting.{Meeting}
use Rattle.room_model.specs.Taken.{AreTaken}
use Rattle.room_model.proofs.TakenLemmas.{all_taken, meetings_step, taken_one}
use Rattle.room_model.proofs.long.fault_by_table.Goals as goal

pub fault_after-requires-clause-earlier : goal.fault_after-requires-clause-earlier
fault_after-requires-clause-earlier c = all_taken (is_meeting c.args.calendar.now.instance) c.args.meetings.now c.loop-event.event c.requires.known

pub loop-event-preserved : goal.loop-event-preserved
loop-event-preserved c =
    let i = c.args.calendar.now.instance in
    let m = c.args.calendar.now.measures in
    let none : Meeting = record { course = 0; room = 0; day = 0; period = 0 } in
    record {
      fault = meetings_step i m c.args.meetings.now c.loop-event.event none c.fault_after.result (omega arith) c.fault_after.ensures c.in-None.is ∙ c.loop-event.invariant.fault;
      taken = subst (λ ms. AreTaken i m ms c.take_slots.new.taken) (sym (taken_one c.args.meetings.now c.loop-event.event none (omega arith)))
          (c.take_slots.ensures.taken (take c.loop-event.event c.args.meetings.now) c.loop-event.invariant.taken);
    }
