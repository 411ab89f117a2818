use Rattle.std.proofs.Common.{not, ◌+◌, ◌*◌, ◌∙◌, ap, false, get_or}
use Rattle.std.specs.List.{list_any}
use Rattle.problem_core.specs.Facts.{run_of}
use Rattle.problem_core.proofs.TakenLemmas.{taken_tells, where_suits}
use Rattle.problem_core.proofs.greedy.can_take.Goals as goal

pub returns-then-suits : goal.returns-then-suits
returns-then-suits c a is =
    let p = c.args.p.now in
    where_suits c.suits.result _ _ _ _ c.suits.ensures c.if-suits.true
    (ap not (c.is_taken.ensures ∙ ap (λ w. list_any (λ t. get_or c.args.taken.now (c.args.room * w + t) false) (run_of c.takes-slot.result.0 c.takes-slot.result.1)) c.slot_count-slots.ensures.count))
    (taken_tells p a c.args.event c.args.room _ _ c.args.taken.now is c.requires.known_room c.takes-slot.ensures.slots c.takes-slot.ensures.within)
