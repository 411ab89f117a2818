-- What the calls of a shelf and of a sink do.
use Rattle.std.specs.Prelude.{◌≡◌, ◌≢◌, ◌⊎◌, ℕ, ◌-◌, ◌<◌, ◌≤◌, List, ◌++◌, length, take, drop, Bool, IsTrue, Option, Some, None, Result, Ok, Err, OnErr, OnOk}
use Rattle.input_core.specs.declared.shelf.Fault.{Fault}
use Rattle.input_core.specs.declared.shelf.PutFault.{PutFault}
use Rattle.input_core.specs.declared.shelf.PutFault.TheVariants as put_faults
use Rattle.input_core.specs.Causes.{Rose}

-- the front of buf is n bytes that stand from place at on; none only at the end, or where there is no room
pub record IsPiece (bytes : List ℕ) (at : ℕ) (buf : List ℕ) (n : ℕ) : Type 0 where
  pub same : take n buf ≡ take n (drop at bytes)
  pub there : n ≤ length bytes - at
  pub some : 0 < length buf → at < length bytes → 0 < n

-- what `piece` gives of what a name holds: an unknown name is a fault
abbrev pub GivesPiece : Option (List ℕ) → ℕ → List ℕ → Result ℕ Fault → Type 0
GivesPiece None at buf (Ok n) = ⊥
GivesPiece (Some bytes) at buf (Ok n) = IsPiece bytes at buf n
GivesPiece held at buf (Err e) = Unit {0}

-- a fault comes only where the count rose, or the shelf tells that it holds no such name, and then the count stays
pub record PieceCause (tells : Bool) (held : Option (List ℕ)) (before now : ℕ) (result : Result ℕ Fault) : Type 0 where
  pub later : before ≤ now
  pub fault : OnErr result (Rose before now ⊎ (IsTrue tells × (held ≡ None)))
  pub unknown : IsTrue tells → held ≡ None → now ≡ before
  pub kept : OnOk result (now ≡ before)

-- Reading alone: every name holds what it held, and no put has failed.
pub record OnlyReads {S : Type 0} (tells : S → Bool) (held : S → List ℕ → Option (List ℕ)) (piece_faults put_faults : S → ℕ) (old new : S) : Type 0 where
  pub same_telling : tells new ≡ tells old
  pub same_names : (name : List ℕ) → held new name ≡ held old name
  pub same_puts : put_faults new ≡ put_faults old
  pub later : piece_faults old ≤ piece_faults new

-- every name but this one holds what it held, and after Ok this one holds the bytes
pub record Puts (old_tells new_tells : Bool) (old new : List ℕ → Option (List ℕ)) (name bytes : List ℕ) (result : Result (Unit {0}) PutFault) : Type 0 where
  pub tells : new_tells ≡ old_tells
  pub put : OnOk result (IsTrue old_tells → new name ≡ Some bytes)
  pub others : (other : List ℕ) → other ≢ name → new other ≡ old other

abbrev pub PutFails : ℕ → ℕ → PutFault → Type 0
PutFails before now put_faults.Fault = Rose before now
PutFails before now put_faults.Memory = Unit {0}

-- after Ok all of the bytes were appended, after a fault a front of them, after want of memory none
abbrev pub Appends : List ℕ → List ℕ → List ℕ → Result (Unit {0}) PutFault → Type 0
Appends old new bytes (Ok u) = new ≡ old ++ bytes
Appends old new bytes (Err put_faults.Fault) = (n : ℕ) × (n ≤ length bytes) × (new ≡ old ++ take n bytes)
Appends old new bytes (Err put_faults.Memory) = new ≡ old

abbrev pub Writes : Option (List ℕ) → Option (List ℕ) → List ℕ → Result (Unit {0}) PutFault → Type 0
Writes None new bytes result = new ≡ None
Writes (Some old) None bytes result = ⊥
Writes (Some old) (Some new) bytes result = Appends old new bytes result
