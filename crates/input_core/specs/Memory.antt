-- A shelf and a sink in memory. Every put adds a file, and a name holds what its newest file has.
use Rattle.std.specs.Prelude.{◌≡◌, ◌-◌, ℕ, ◌==◌, List, [], ◌∷◌, ◌++◌, length, take, min, Bool, true, false, Option, Some, None, Result, Ok, Err, if◌then◌else◌, String, Vec, string_bytes}
use Rattle.std.specs.Cmp.Lexicographic.{pointwise}
use Rattle.std.specs.declared.alloc.Global.{Global}
use Rattle.input_core.specs.declared.shelf.Fault.{Fault}
use Rattle.input_core.specs.declared.shelf.PutFault.{PutFault}
use Rattle.input_core.specs.declared.shelf.PutFault.TheVariants as put_faults

abbrev pub Stored : Type 0
Stored = String Global × Vec ℕ Global

abbrev pub same_bytes : List ℕ → List ℕ → Bool
same_bytes a b = pointwise (λ x y. x == y) a b

-- what a name holds after these files, if it held before at first
abbrev pub held_after : Option (List ℕ) → List Stored → List ℕ → Option (List ℕ)
held_after before [] name = before
held_after before (file ∷ files) name = held_after (if same_bytes (string_bytes file.0) name then Some file.1.items else before) files name

abbrev pub held_by : List Stored → List ℕ → Option (List ℕ)
held_by files name = held_after None files name

abbrev pub same_number : ℕ → ℕ → Bool
same_number call number = call == number

-- what `piece` answers: whether its call is listed, what the name holds, from which place, into how many bytes
abbrev pub listed_piece : Bool → Option (List ℕ) → ℕ → ℕ → Result ℕ Fault
listed_piece true held at room = Err (record {})
listed_piece false None at room = Err (record {})
listed_piece false (Some bytes) at room = Ok (min (length bytes - at) room)

-- `put` answers a fault exactly where its call is listed
abbrev pub FailsListed : Bool → Result (Unit {0}) PutFault → Type 0
FailsListed true (Err put_faults.Fault) = Unit {0}
FailsListed true (Err put_faults.Memory) = ⊥
FailsListed true (Ok u) = ⊥
FailsListed false (Err put_faults.Fault) = ⊥
FailsListed false (Err put_faults.Memory) = Unit {0}
FailsListed false (Ok u) = Unit {0}

-- after how many bytes the call fails, where it is listed
abbrev pub bytes_before : List (ℕ × ℕ) → ℕ → Option ℕ
bytes_before [] call = None
bytes_before (entry ∷ entries) call = if entry.0 == call then Some entry.1 else bytes_before entries call

-- `write` answers a fault exactly where its call is listed, and then appended that many bytes, or all
abbrev pub SinkListed : Option ℕ → List ℕ → List ℕ → List ℕ → Result (Unit {0}) PutFault → Type 0
SinkListed None old bytes new (Ok u) = Unit {0}
SinkListed None old bytes new (Err put_faults.Fault) = ⊥
SinkListed None old bytes new (Err put_faults.Memory) = Unit {0}
SinkListed (Some n) old bytes new (Ok u) = ⊥
SinkListed (Some n) old bytes new (Err put_faults.Fault) = new ≡ old ++ take n bytes
SinkListed (Some n) old bytes new (Err put_faults.Memory) = Unit {0}
