-- What single fields mean, and how a reader's answer is compared with a definition.
use Rattle.std.specs.Prelude.{ℕ, ◌≡◌, ◌&&◌, if◌then◌else◌, nat_lt, nat_le, List, length, Option, Some, None, Result, Ok, Err}
use Rattle.input_core.specs.Lines.{number_of}
use Rattle.input_core.specs.declared.faults.LineKind.{LineKind}
use Rattle.input_core.specs.declared.faults.LineKind.TheVariants.{NameLength, Number, Range}
use Rattle.input_core.specs.declared.faults.LineFault.{LineFault}
use Rattle.input_core.specs.declared.faults.TextFault.{TextFault}
use Rattle.input_core.specs.declared.faults.TextFault.TheVariants as text_faults

infixl 10 ◌>>=◌
-- the first fault decides
abbrev pub ◌>>=◌ : {A B E : Type 0} → Result A E → (A → Result B E) → Result B E
(Ok x) >>= f = f x
(Err e) >>= f = Err e

abbrev pub or_fault : {A : Type 0} → Option A → LineKind → Result A LineKind
or_fault (Some x) kind = Ok x
or_fault None kind = Err kind

-- a name has at most 64 bytes
abbrev pub name_of : List ℕ → Result (List ℕ) LineKind
name_of field = if nat_lt 64 (length field) then Err NameLength else Ok field

abbrev pub within : ℕ → ℕ → ℕ → Result ℕ LineKind
within low high n = if nat_le low n && nat_le n high then Ok n else Err Range

-- a number from low to high
abbrev pub number_in : ℕ → ℕ → List ℕ → Result ℕ LineKind
number_in low high field = or_fault (number_of field) Number >>= within low high

abbrev pub below : ℕ → ℕ → Result ℕ LineKind
below limit n = if nat_lt n limit then Ok n else Err Range

-- a number below the limit
abbrev pub number_below : ℕ → List ℕ → Result ℕ LineKind
number_below limit field = or_fault (number_of field) Number >>= below limit

-- a fault of a line with its number
abbrev pub in_line : {A : Type 0} → ℕ → Result A LineKind → Result A LineFault
in_line n (Ok x) = Ok x
in_line n (Err kind) = Err (record { line = n; kind = kind })

-- what a reader returned is what the definition gives, unless memory ran out
abbrev pub Fails : {Y : Type 0} → TextFault → Result Y LineFault → Type 0
Fails text_faults.Memory read = Unit {0}
Fails (text_faults.Line fault) read = read ≡ Err fault

abbrev pub Gives : {X Y : Type 0} → (X → Y) → Result X TextFault → Result Y LineFault → Type 0
Gives view (Ok x) read = read ≡ Ok (view x)
Gives view (Err e) read = Fails e read
