-- How a run ends.
use Rattle.std.specs.Prelude.{ℕ, ◌≡◌, ◌⊎◌, ◌≤◌, List, [], ◌++◌, length, take, Option, Some, IfSome}
use Rattle.input_core.specs.Causes.{Rose}
use Rattle.run_core.specs.Outside.{Printed}
use Rattle.run_core.specs.declared.status.ToolStatus.{ToolStatus}
use Rattle.run_core.specs.declared.status.ToolStatus.TheVariants as statuses

-- the sink's bytes grew by exactly this text, where it tells them
abbrev pub Grew : Option (List ℕ) → Option (List ℕ) → List ℕ → Type 0
Grew old new text = IfSome old (λ before. new ≡ Some (before ++ text))

-- the text of the answer was printed, and this is why
pub record Prints (p : Printed) (because : List ℕ → Type 0) : Type 0 where
  pub text : List ℕ
  pub why : because text
  pub grew : Grew p.old p.new text

-- a front of an explained text came out, and the sink's count of faults rose
pub record IsWriteFault (p : Printed) (explain : List ℕ → ToolStatus → Type 0) : Type 0 where
  pub status : ToolStatus
  pub text : List ℕ
  pub explained : explain text status
  pub rose : Rose p.faults.before p.faults.now
  pub size : ℕ
  pub within : size ≤ length text
  pub grew : Grew p.old p.new (take size text)

-- printing: the status stays where the write went well
abbrev pub PrintEnds : Printed → ToolStatus → List ℕ → ToolStatus → Type 0
PrintEnds p wanted text status =
    ((status ≡ wanted) × Grew p.old p.new text)
    ⊎ (((status ≡ statuses.WriteFault) × Rose p.faults.before p.faults.now × ((size : ℕ) × (size ≤ length text) × Grew p.old p.new (take size text)))
    ⊎ ((status ≡ statuses.Memory) × Grew p.old p.new []))

-- how a run ends, by its status, where a text and a status are explained so: a write fault without a text is that of a
-- file that was not put, and then nothing was printed
abbrev pub RunEnds : Printed → (List ℕ → ToolStatus → Type 0) → ToolStatus → Type 0
RunEnds p explain statuses.WriteFault = IsWriteFault p explain ⊎ (explain [] statuses.WriteFault × Grew p.old p.new [])
RunEnds p explain statuses.Memory = Grew p.old p.new []
RunEnds p explain status = Prints p (λ text. explain text status)
