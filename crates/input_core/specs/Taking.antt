-- Bytes that a taker took, by the relations for what it stood before and behind.
use Rattle.std.specs.Prelude.{◌≡◌, ℕ, ◌+◌, ◌≤◌, List, ◌++◌, length, take, Bool, IsTrue, Option, Some, None}
use Rattle.input_core.specs.declared.read.ReadRefusal.{ReadRefusal}
use Rattle.input_core.specs.declared.read.ReadRefusal.TheVariants.{Fault, TooLong, Memory}
use Rattle.input_core.specs.Reading.{IsWhole, AddsPiece}

-- it took all that the name holds, so many bytes
pub record TakesWhole (tells : Bool) (held : Option (List ℕ)) (limit : ℕ) (old new : List ℕ → Type 0) (count : ℕ) : Type 0 where
  pub bytes : List ℕ
  pub whole : IsWhole tells held limit bytes
  pub size : length bytes ≡ count
  pub stands : (before : List ℕ) → old before → new (before ++ bytes)

-- a front of what the name holds, where the shelf tells it, and no more than the limit
pub record IsFront (tells : Bool) (held : Option (List ℕ)) (limit : ℕ) (bytes : List ℕ) : Type 0 where
  pub short : length bytes ≤ limit
  pub front : IsTrue tells → (all : List ℕ) → held ≡ Some all → bytes ≡ take (length bytes) all
  pub none : IsTrue tells → held ≡ None → length bytes ≡ 0

-- it took a front of what the name holds
pub record TakesSome (tells : Bool) (held : Option (List ℕ)) (limit : ℕ) (old new : List ℕ → Type 0) : Type 0 where
  pub bytes : List ℕ
  pub front : IsFront tells held limit bytes
  pub stands : (before : List ℕ) → old before → new (before ++ bytes)

-- what it took by a refusal; after want of memory it is not known
abbrev pub TakesFront : Bool → Option (List ℕ) → ℕ → (List ℕ → Type 0) → (List ℕ → Type 0) → ReadRefusal → Type 0
TakesFront tells held limit old new Fault = TakesSome tells held limit old new
TakesFront tells held limit old new (TooLong taken) = TakesSome tells held limit old new
TakesFront tells held limit old new Memory = Unit {0}

-- it took the next piece of n bytes behind those that are done
pub record TakesPiece (tells : Bool) (held : Option (List ℕ)) (limit done : ℕ) (old new : List ℕ → Type 0) (n : ℕ) : Type 0 where
  pub piece : List ℕ
  pub within : done + n ≤ limit
  pub adds : (bytes : List ℕ) → length bytes ≡ done → AddsPiece tells held limit bytes (bytes ++ piece) n
  pub stands : (before : List ℕ) → old before → new (before ++ piece)

-- it took nothing; after want of memory it is not known
abbrev pub LeavesTaker : (List ℕ → Type 0) → (List ℕ → Type 0) → ReadRefusal → Type 0
LeavesTaker old new Fault = (before : List ℕ) → old before → new before
LeavesTaker old new (TooLong taken) = (before : List ℕ) → old before → new before
LeavesTaker old new Memory = Unit {0}
