use Rattle.std.proofs.Common.{◌≡◌, ◌*◌, ◌∙◌, ap₂, false, [], length, refl, replicate, rules}
use Rattle.std.specs.List.{list_any}
use Rattle.problem_core.proofs.GridLemmas.{IsGrid-replicated}
use Rattle.room_model.specs.Taken.{has_slot}
use Rattle.room_model.proofs.long.long_fault.Goals as goal

pub fault_by_table-requires-clause-unmarked : goal.fault_by_table-requires-clause-unmarked
fault_by_table-requires-clause-unmarked c =
    let i = c.args.calendar.now.instance in
    let m = c.args.calendar.now.measures in
    let filled : c.in_ok-taken.taken.items ≡ replicate (c.courses.result * c.slots.result) false = search rules in
    IsGrid-replicated false (length i.courses) _ (c.courses.result * c.slots.result) c.deref_mut.result.now (λ r t. list_any (has_slot i m r t) []) (c.deref_mut.ensures.value ∙ filled)
    (ap₂ (λ a b. a * b) c.courses.ensures.count c.slots.ensures.slots) (λ r t. refl)
