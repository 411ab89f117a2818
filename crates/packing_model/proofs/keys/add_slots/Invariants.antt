use Rattle.std.proofs.Common.{◌≡◌, ◌+◌, ◌-◌, ◌++◌, map}
use Rattle.problem_core.specs.Facts.{event_at, run_of}
use Rattle.packing_model.specs.Keys.{slot_key}
use Rattle.packing_model.proofs.keys.add_slots.Given as goal

-- the keys so far and those of the slots that are left
abbrev pub invariant-loop-slot : goal.invariant-loop-slot
invariant-loop-slot l =
    l.keys.items ++ map (slot_key l.p l.room) (run_of l.slot (l.first + l.count - l.slot)) ≡ l.fn.keys.items ++ map (slot_key l.p l.room) (event_at l.p l.event).takes
