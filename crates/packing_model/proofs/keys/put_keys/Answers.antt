use Rattle.std.proofs.Common.{ℕ, ◌*◌, ◌<◌, ◌≤◌, arith, sym, subst, length}
use Rattle.std.specs.List.{AllByRecursion}
use Rattle.std.proofs.lemmas.Nat.{mul-le}
use Rattle.problem_core.specs.Courses.{is_of_course}
use Rattle.problem_core.specs.Passing.{passing-below}
use Rattle.packing_model.proofs.keys.put_keys.Goals as goal

few_cells : (course rooms : ℕ) → course ≤ 1000 → rooms ≤ 200 → course * rooms ≤ 200000
few_cells course rooms l m = mul-le course rooms 1000 200 l m

pub add_events-requires-clause-known : goal.add_events-requires-clause-known
add_events-requires-clause-known c =
    subst (AllByRecursion (λ e. e < length c.args.p.now.events)) (sym c.events_of.ensures.events)
    (passing-below (is_of_course c.args.p.now c.args.x.course) (length c.args.p.now.events) (length c.args.p.now.events) (omega arith))

pub overflow_mul-x : goal.overflow_mul-x
overflow_mul-x c =
    omega (arith, few_cells c.args.x.course c.room_count.result (omega (arith, c.requires.known_course, c.laws.ensures.few_courses)) (omega (arith, c.room_count.ensures.count, c.room_count.ensures.few)))

pub overflow_add-x : goal.overflow_add-x
overflow_add-x c =
    omega (arith, c.requires.known_room, c.room_count.ensures.few, few_cells c.args.x.course c.room_count.result (omega (arith, c.requires.known_course, c.laws.ensures.few_courses)) (omega (arith, c.room_count.ensures.count, c.room_count.ensures.few)))

pub overflow_add-slot_end : goal.overflow_add-slot_end
overflow_add-slot_end c =
    omega (arith, c.slot_end.ensures.end, c.slot_end.ensures.few, c.requires.known_room, c.room_count.ensures.few, few_cells c.args.x.course c.room_count.result (omega (arith, c.requires.known_course, c.laws.ensures.few_courses)) (omega (arith, c.room_count.ensures.count, c.room_count.ensures.few)))
