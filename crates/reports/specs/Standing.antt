-- Where meetings stand in a report.
use Rattle.std.specs.Prelude.{ℕ, ◌≡◌, ◌+◌, Bool, List, length, count_by}
use Rattle.problem_core.specs.Facts.{Facts}
use Rattle.problem_core.specs.Valid.{IsProblem}
use Rattle.problem_core.specs.Choice.{IsLegal}
use Rattle.ctt_reader.specs.declared.instance.Instance.{Instance}
use Rattle.timed_solution.specs.declared.times.Times.{Times}
use Rattle.timed_solution.specs.Times.{AreTimes}
use Rattle.reports.specs.declared.session.Session.{Session}
use Rattle.reports.specs.Rooms.{each_below, sessions, in_room, without_room, IsProblemOf}

-- the sessions in the rooms, room after room
abbrev pub in_rooms : Instance → List Session → List Session
in_rooms i xs = each_below (in_room i xs) (length i.rooms)

-- each session stands once, in a room or without one: whatever they are tested for, as many pass in the two lists as among all
abbrev pub EachStandsOnce : Type 0
EachStandsOnce =
    (i : Instance) (t : Times) (p : Facts) (a : List ℕ) → AreTimes i t.meetings → IsProblem p → IsProblemOf i t p → IsLegal p a → (test : Session → Bool)
    → count_by test (in_rooms i (sessions t p a)) + count_by test (without_room (sessions t p a)) ≡ count_by test (sessions t p a)
