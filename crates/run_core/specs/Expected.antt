-- What a run in which no call fails answers.
use Rattle.std.specs.Prelude.{ℕ, ◌≡◌, ◌⊎◌, List, length, Option, Some, None, Result, Ok, Err, nat_lt, if◌then◌else◌, map, String}
use Rattle.std.specs.String.{string_bytes}
use Rattle.std.specs.declared.alloc.Global.{Global}
use Rattle.input_core.specs.declared.faults.LineFault.{LineFault}
use Rattle.run_core.specs.Texts.{read_fault_text, too_long_text, bad_line_text}
use Rattle.run_core.specs.Files.{limit}
use Rattle.run_core.specs.Outside.{Printed}
use Rattle.run_core.specs.Ends.{Grew}
use Rattle.run_core.specs.declared.status.ToolStatus.{ToolStatus}
use Rattle.run_core.specs.declared.status.ToolStatus.TheVariants as statuses

abbrev pub words_of : List (String Global) → List (List ℕ)
words_of words = map (λ w. string_bytes w) words

-- a status and a text; or what a search finds, which the files alone don't tell
pub data Expected : Type 0 where
  Says : ToolStatus → List ℕ → Expected
  Finds : Expected

-- the bytes of a file that is there and not too long
abbrev pub of_file : List ℕ → Option (List ℕ) → (List ℕ → Expected) → Expected
of_file name None next = Says statuses.ReadFault (read_fault_text name)
of_file name (Some bytes) next = if nat_lt limit (length bytes) then Says statuses.BadInput (too_long_text name) else next bytes

-- the value of a text, or its first fault
abbrev pub of_text : {X : Type 0} → List ℕ → Result X LineFault → (X → Expected) → Expected
of_text name (Err fault) next = Says statuses.BadInput (bad_line_text name fault)
of_text name (Ok x) next = next x

-- an answer of this text and this status is the expected one
abbrev pub IsSaid : List ℕ → ToolStatus → Expected → Type 0
IsSaid text status (Says expected said) = (status ≡ expected) × (text ≡ said)
IsSaid text status Finds = (status ≡ statuses.Done) ⊎ (status ≡ statuses.Open)

-- the status is the expected one and the sink grew by the expected text; what a search finds is whole or left open
abbrev pub AnswersAs : Printed → ToolStatus → Expected → Type 0
AnswersAs p status (Says expected text) = (status ≡ expected) × Grew p.old p.new text
AnswersAs p status Finds = (status ≡ statuses.Done) ⊎ (status ≡ statuses.Open)

-- memory ran out, or the run answered as expected
abbrev pub AnswersExpected : Printed → ToolStatus → Expected → Type 0
AnswersExpected p status expected = (status ≡ statuses.Memory) ⊎ AnswersAs p status expected
