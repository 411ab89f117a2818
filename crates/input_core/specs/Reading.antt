-- Reading all that a name holds.
use Rattle.std.specs.Prelude.{◌≡◌, ◌⊎◌, ℕ, ◌+◌, ◌<◌, ◌≤◌, List, length, take, Bool, IsTrue, Option, Some, None, IsSomeAnd, Result, Ok, Err}
use Rattle.input_core.specs.declared.read.ReadRefusal.{ReadRefusal}
use Rattle.input_core.specs.declared.read.ReadRefusal.TheVariants.{Fault, TooLong, Memory}
use Rattle.input_core.specs.Causes.{Rose}

-- all that the name holds, where the shelf tells it, and no more than the limit
pub record IsWhole (tells : Bool) (held : Option (List ℕ)) (limit : ℕ) (bytes : List ℕ) : Type 0 where
  pub short : length bytes ≤ limit
  pub whole : IsTrue tells → held ≡ Some bytes

abbrev pub ReadFails : Bool → Option (List ℕ) → ℕ → ℕ → ℕ → ReadRefusal → Type 0
ReadFails tells held before now limit Fault = Rose before now ⊎ (IsTrue tells × (held ≡ None))
ReadFails tells held before now limit (TooLong taken) = (taken ≡ limit + 1) × (IsTrue tells → IsSomeAnd held (λ bytes. limit < length bytes))
ReadFails tells held before now limit Memory = Unit {0}

-- no call has failed, unless the answer is a fault
abbrev pub NoneFailed : {T : Type 0} → ℕ → ℕ → Result T ReadRefusal → Type 0
NoneFailed before now (Ok value) = now ≡ before
NoneFailed before now (Err Fault) = Unit {0}
NoneFailed before now (Err (TooLong taken)) = now ≡ before
NoneFailed before now (Err Memory) = now ≡ before

-- a step of the reading: the next n bytes came to the end, none only where all are there
pub record AddsPiece (tells : Bool) (held : Option (List ℕ)) (limit : ℕ) (old new : List ℕ) (n : ℕ) : Type 0 where
  pub longer : length new ≡ length old + n
  pub within : length new ≤ limit + 1
  pub next : IsTrue tells → (all : List ℕ) → held ≡ Some all → old ≡ take (length old) all → new ≡ take (length new) all
  pub some : IsTrue tells → (all : List ℕ) → held ≡ Some all → n ≡ 0 → length all ≤ length old
  pub known : IsTrue tells → held ≡ None → ⊥
