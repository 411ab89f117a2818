-- A choice has one entry an event: 0 for no room, else a room's number + 1.
use Rattle.std.specs.Prelude.{ℕ, ◌≡◌, ◌≢◌, ◌<◌, ◌-◌, ◌==◌, ◌&&◌, Bool, false, List, length, slice_index, IsTrue}
use Rattle.problem_core.specs.Facts.{Facts, suits, share_slot}

abbrev pub entry : List ℕ → ℕ → ℕ
entry a e = slice_index a e

-- event f has the entry x, and takes a slot in common with event e
abbrev pub holds : Facts → List ℕ → ℕ → ℕ → ℕ → Bool
holds p a e x f = (entry a f == x) && share_slot p f e

-- one entry an event, and each room that is named is a room
pub record IsChoice (p : Facts) (a : List ℕ) : Type 0 where
  pub one_each : length a ≡ length p.events
  pub known : (e : ℕ) → e < length a → entry a e ≢ 0 → entry a e - 1 < length p.capacity

-- each room that is named suits its event, and no room is given twice at a time
pub record IsLegal (p : Facts) (a : List ℕ) : Type 0 where
  pub one_each : length a ≡ length p.events
  pub known : (e : ℕ) → e < length a → entry a e ≢ 0 → entry a e - 1 < length p.capacity
  pub suitable : (e : ℕ) → e < length a → entry a e ≢ 0 → IsTrue (suits p e (entry a e - 1))
  pub apart : (e f : ℕ) → e < f → f < length a → entry a e ≢ 0 → entry a e ≡ entry a f → share_slot p e f ≡ false
