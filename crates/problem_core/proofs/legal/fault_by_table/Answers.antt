use Rattle.std.proofs.Common.{◌∙◌, ap, sym, arith, length}
use Rattle.problem_core.specs.Faults.{first_from_on, fault_of}
use Rattle.problem_core.proofs.FaultLemmas.{first_from_on-some, first_from_on-none, first_from_on-end}
use Rattle.problem_core.proofs.TakenLemmas.{none_yet, taken_next}
use Rattle.problem_core.proofs.legal.fault_by_table.Goals as goal

pub loop-event-init : goal.loop-event-init
loop-event-init c = record {
  fault = ap (first_from_on (fault_of c.args.p.now c.args.entries.now) 0) (omega arith);
  whole = c.requires.whole;
  taken = none_yet c.args.p.now c.args.entries.now c.args.taken.now c.requires.whole c.requires.unmarked;
}

pub returns-in-Some : goal.returns-in-Some
returns-in-Some c =
    sym (c.loop-event.invariant.fault
    ∙ first_from_on-some (fault_of c.args.p.now c.args.entries.now) c.loop-event.event (length c.args.p.now.events) c.in-Some.fault (omega arith) (sym c.fault_of.ensures ∙ c.in-Some.is))

pub loop-event-preserved : goal.loop-event-preserved
loop-event-preserved c = record {
  fault = c.loop-event.invariant.fault
      ∙ first_from_on-none (fault_of c.args.p.now c.args.entries.now) c.loop-event.event (length c.args.p.now.events) (omega arith) (sym c.fault_of.ensures ∙ c.in-None.is);
  whole = c.take_room.ensures.whole ∙ c.loop-event.invariant.whole;
  taken = taken_next c.args.p.now c.args.entries.now c.loop-event.event c.loop-event.taken _ (omega (arith, c.requires.choice.one_each)) c.take_room.ensures.taken c.loop-event.invariant.taken;
}

pub returns : goal.returns
returns c =
    sym (c.loop-event.invariant.fault ∙ first_from_on-end (fault_of c.args.p.now c.args.entries.now) c.loop-event.event (length c.args.p.now.events) (omega arith))
