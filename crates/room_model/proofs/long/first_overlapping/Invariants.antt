use Rattle.std.proofs.Common.{◌≡◌, ◌+◌, drop}
use Rattle.std.specs.List.{position_or_len}
use Rattle.room_model.specs.ProblemOf.{event_part}
use Rattle.room_model.specs.Long.{overlaps}
use Rattle.room_model.proofs.long.first_overlapping.Given as goal

abbrev pub invariant-loop-k : goal.invariant-loop-k
invariant-loop-k l =
    l.k + position_or_len (λ y. overlaps l.event (event_part l.calendar.instance.periods l.calendar.measures y)) (drop l.k l.before)
    ≡ position_or_len (λ y. overlaps l.event (event_part l.calendar.instance.periods l.calendar.measures y)) l.before
