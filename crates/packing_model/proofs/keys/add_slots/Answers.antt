use Rattle.std.proofs.Common.{ℕ, ◌≡◌, ◌+◌, ◌*◌, ◌≤◌, arith}
use Rattle.std.proofs.lemmas.Nat.{mul-le}
use Rattle.packing_model.specs.Keys.{slot_key}
use Rattle.packing_model.proofs.StepLemmas.{run_step}
use Rattle.packing_model.proofs.keys.add_slots.Goals as goal

few_cells : (room slots : ℕ) → room ≤ 200 → slots ≤ 672 → room * slots ≤ 134400
few_cells room slots l m = mul-le room slots 200 672 l m

pub overflow_mul-row : goal.overflow_mul-row
overflow_mul-row c = omega (arith, few_cells c.args.room c.slot_count.result (omega (arith, c.requires.room)) (omega (arith, c.slot_count.ensures.count, c.slot_count.ensures.few)))

pub overflow_add-row : goal.overflow_add-row
overflow_add-row c =
    omega (arith, c.event_count.ensures.count, c.event_count.ensures.few, few_cells c.args.room c.slot_count.result (omega (arith, c.requires.room)) (omega (arith, c.slot_count.ensures.count, c.slot_count.ensures.few)))

pub overflow_add-row-in-loop-slot : goal.overflow_add-row-in-loop-slot
overflow_add-row-in-loop-slot c =
    omega (arith, c.event_count.ensures.count, c.event_count.ensures.few, c.loop-slot-test.true, c.takes-first.ensures.within, c.slot_count.ensures.few, few_cells c.args.room c.slot_count.result (omega (arith, c.requires.room)) (omega (arith, c.slot_count.ensures.count, c.slot_count.ensures.few)))

pub loop-slot-preserved : goal.loop-slot-preserved
loop-slot-preserved c =
    let p = c.args.p.now in
    let here : c.event_count.result + c.args.room * c.slot_count.result + c.loop-slot.slot ≡ slot_key p c.args.room c.loop-slot.slot =
    rw (c.event_count.ensures.count, c.slot_count.ensures.count) (omega arith) in
    run_step (slot_key p c.args.room) c.loop-slot.keys.items _ _ c.loop-slot.slot _ _ c.loop-slot-test.true c.in_ok-push.ensures.items here c.loop-slot.invariant
