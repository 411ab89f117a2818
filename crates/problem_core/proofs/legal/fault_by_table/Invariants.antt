use Rattle.std.proofs.Common.{◌≡◌, ◌-◌, ◌*◌, length}
use Rattle.problem_core.specs.Faults.{first_from_on, fault_of}
use Rattle.problem_core.specs.Taken.{IsTaken}
use Rattle.problem_core.proofs.legal.fault_by_table.Given as goal

abbrev pub invariant-loop-event : goal.invariant-loop-event
invariant-loop-event l = record {
  fault : first_from_on (fault_of l.p l.entries) 0 (length l.p.events) ≡ first_from_on (fault_of l.p l.entries) l.event (length l.p.events - l.event);
  whole : length l.taken ≡ length l.p.capacity * l.p.slots;
  taken : IsTaken l.p l.entries l.event l.taken;
}
