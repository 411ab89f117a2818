-- Events in order, each takes the lowest room that suits and that no earlier event with a common slot took.
use Rattle.std.specs.Prelude.{ℕ, ◌≡◌, ◌+◌, ◌<◌, ◌&&◌, Bool, not, List, length, take}
use Rattle.problem_core.specs.Facts.{Facts, suits}
use Rattle.problem_core.specs.Choice.{entry, holds}
use Rattle.numbers.specs.Below.{any_below, first_from}

-- room r suits event e, and no earlier event has it in a slot of event e
abbrev pub can_take : Facts → List ℕ → ℕ → ℕ → Bool
can_take p a e r = suits p e r && not (any_below (holds p a e (r + 1)) e)

pub record IsFirstChoice (p : Facts) (a : List ℕ) : Type 0 where
  pub one_each : length a ≡ length p.events
  pub lowest : (e : ℕ) → e < length a → entry a e ≡ first_from (can_take p (take e a) e) 0 (length p.capacity)
