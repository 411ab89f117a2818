-- How a step ends that may not fit its numbers or its memory.
use Rattle.std.specs.Prelude.{◌≡◌, ℕ, Result, Ok, Err}
use Rattle.exact_num.specs.Arith.{Rose}
use Rattle.simplex_tableau.specs.declared.fault.Fault.{Fault}
use Rattle.simplex_tableau.specs.declared.fault.Fault.TheVariants as fault

abbrev pub Ends : {T : Type 0} → ℕ → ℕ → (T → Type 0) → Result T Fault → Type 0
Ends before now P (Ok v) = (now ≡ before) × P v
Ends before now P (Err fault.Wide) = Rose before now
Ends before now P (Err fault.Memory) = Unit {0}
