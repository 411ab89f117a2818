-- The first event that keeps a choice from being legal, and why.
use Rattle.std.specs.Prelude.{ℕ, ◌+◌, ◌-◌, ◌==◌, zero, suc, List, length, if◌then◌else◌, Option, Some, None}
use Rattle.problem_core.specs.Facts.{Facts, suits}
use Rattle.problem_core.specs.Choice.{entry, holds}
use Rattle.numbers.specs.Below.{first_from}
use Rattle.problem_core.specs.declared.choice.RoomFault.{RoomFault}
use Rattle.problem_core.specs.declared.choice.RoomFault.TheVariants.{Unsuitable, Clash}

-- the clash of event e with the event that is found, which is given by its number + 1
abbrev pub clash_of : ℕ → ℕ → Option RoomFault
clash_of found e = if found == 0 then None else Some (Clash (found - 1) e)

-- what is wrong with event e: its room doesn't suit it, else the least earlier event with a slot in common has its room too
abbrev pub fault_of : Facts → List ℕ → ℕ → Option RoomFault
fault_of p a e =
    if entry a e == 0 then None
    else (if suits p e (entry a e - 1) then clash_of (first_from (holds p a e (entry a e)) 0 e) e
    else Some (Unsuitable e))

abbrev pub unless_found : Option RoomFault → Option RoomFault → Option RoomFault
unless_found None later = later
unless_found (Some fault) later = Some fault

-- the first fault of the n events from e on
abbrev pub first_from_on : (ℕ → Option RoomFault) → ℕ → ℕ → Option RoomFault
first_from_on fault e zero = None
first_from_on fault e (suc n) = unless_found (fault e) (first_from_on fault (e + 1) n)

-- what is wrong with the least event that something is wrong with
abbrev pub first_fault : Facts → List ℕ → Option RoomFault
first_fault p a = first_from_on (fault_of p a) 0 (length p.events)
