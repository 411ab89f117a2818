-- A stage that goes on: the value rises and cuts are added.
use Rattle.std.specs.Prelude.{ℤ, ◌≡◌, ◌≤ℤ◌, Option, Some, None, length, take}
use Rattle.duality.specs.Packing.{Stage}

-- where there was no value, any will do
abbrev pub IsUp : Option ℤ → Option ℤ → Type 0
IsUp None b = Unit {0}
IsUp (Some v) (Some w) = v ≤ℤ w
IsUp (Some v) None = ⊥

-- the old cuts are the first of the new ones
pub record Rises (s t : Stage) : Type 0 where
  pub level : t.level ≡ s.level
  pub targets : t.targets ≡ s.targets
  pub best : IsUp s.best t.best
  pub kept : take (length s.cuts) t.cuts ≡ s.cuts
