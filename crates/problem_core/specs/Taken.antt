-- Which rooms the earlier events took, as it is kept by room and slot.
use Rattle.std.specs.Prelude.{ℕ, Bool, ◌+◌, ◌==◌, ◌&&◌, List, length}
use Rattle.numbers.specs.Below.{any_below}
use Rattle.problem_core.specs.Facts.{Facts, takes_slot}
use Rattle.problem_core.specs.Choice.{entry}
use Rattle.problem_core.specs.Tables.{IsGrid}

-- event f has the entry x, and takes slot t
abbrev pub has_at : Facts → List ℕ → ℕ → ℕ → ℕ → Bool
has_at p a x t f = (entry a f == x) && takes_slot p f t

-- by room and slot, whether one of the first n events has the room and takes the slot
abbrev pub IsTaken : Facts → List ℕ → ℕ → List Bool → Type 0
IsTaken p a n taken = IsGrid taken (length p.capacity) p.slots (λ r t. any_below (has_at p a (r + 1) t) n)
