use Rattle.std.proofs.Common.{◌*◌, ◌∙◌, subst, arith}
use Rattle.problem_core.specs.Sums.{AreGains}
use Rattle.problem_core.proofs.SumLemmas.{AreSums-more, AreWithin-more, AreWithin-wider, ArePlus, measures_are, measures_small}
use Rattle.problem_core.proofs.problem.Problem.values.Goals as goal

pub plus-total-requires-clause-total : goal.plus-total-requires-clause-total
plus-total-requires-clause-total c =
    AreWithin-wider (c.loop-event.event * 48000000) 192000000000 c.loop-event.total (omega (arith, c.loop-event-test.true, c.event_count-event-end.ensures.count, c.event_count-event-end.ensures.few)) c.loop-event.invariant.small

added : (c : goal.After-plus-total) → ArePlus c.loop-event.total c.gains_of.result c.plus-total.result
added c = let e = c.plus-total.ensures in record { hours = e.hours; students = e.students; utilisation = e.utilisation; preference = e.preference; rooms = e.rooms; robustness = e.robustness }

pub loop-event-preserved : goal.loop-event-preserved
loop-event-preserved c = record {
  sums = AreSums-more c.args.self.now c.args.a.now.entries c.loop-event.event c.loop-event.total c.gains_of.result c.plus-total.result (added c) c.loop-event.invariant.sums
      (subst (λ xs. AreGains c.args.self.now xs c.loop-event.event c.gains_of.result) c.as_slice-entries.ensures c.gains_of.ensures.gains);
  small = AreWithin-more c.loop-event.event c.loop-event.total c.gains_of.result c.plus-total.result (added c) c.loop-event.invariant.small c.gains_of.ensures.small;
}

pub array_of-requires : goal.array_of-requires
array_of-requires c =
    AreWithin-wider (c.loop-event.event * 48000000) 192000000000 c.loop-event.total (omega (arith, c.loop-event.auto.event-end, c.event_count-event-end.ensures.count, c.event_count-event-end.ensures.few)) c.loop-event.invariant.small

pub returns-clause-values : goal.returns-clause-values
returns-clause-values c =
    c.array_of.ensures
    ∙ measures_are c.args.self.now c.args.a.now.entries c.loop-event.event c.loop-event.total c.loop-event.invariant.sums (omega (arith, c.loop-event.auto.event-end, c.loop-event-test.false, c.event_count-event-end.ensures.count, c.requires.one_each))

pub returns-clause-small : goal.returns-clause-small
returns-clause-small c =
    measures_small c.loop-event.total c.array_of.result c.array_of.ensures
    (AreWithin-wider (c.loop-event.event * 48000000) 192000000000 c.loop-event.total (omega (arith, c.loop-event.auto.event-end, c.event_count-event-end.ensures.count, c.event_count-event-end.ensures.few)) c.loop-event.invariant.small)
