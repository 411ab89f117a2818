-- Which calls of the shelf and of the sink may have failed, by what is answered, and how often the sink was written.
use Rattle.std.specs.Prelude.{ℕ, ◌≡◌, ◌⊎◌, List, [], Result, Ok, Err}
use Rattle.input_core.specs.Causes.{next_count}
use Rattle.run_core.specs.declared.answer.Stop.{Stop}
use Rattle.run_core.specs.declared.answer.Stop.TheVariants as stops
use Rattle.run_core.specs.declared.status.ToolStatus.{ToolStatus}
use Rattle.run_core.specs.declared.status.ToolStatus.TheVariants as statuses

-- an answer that ends a command is explained, and so is a write fault without a text where a file was not put; want of
-- memory is free
abbrev pub Stops : (List ℕ → ToolStatus → Type 0) → Stop → Type 0
Stops explain (stops.Answer a) = explain a.text.items a.status
Stops explain stops.NotPut = explain [] statuses.WriteFault
Stops explain stops.Memory = Unit {0}

-- no read has failed, unless the status is that of a fault or of want of memory
abbrev pub NoReadFailed : ℕ → ℕ → ToolStatus → Type 0
NoReadFailed before now statuses.ReadFault = Unit {0}
NoReadFailed before now statuses.WriteFault = Unit {0}
NoReadFailed before now statuses.Memory = Unit {0}
NoReadFailed before now status = now ≡ before

-- a step over files: no read of it has failed where it went well, nor where it stops the command without a fault
abbrev pub NoReadOfStepFailed : {T : Type 0} → ℕ → ℕ → Result T Stop → Type 0
NoReadOfStepFailed before now (Ok value) = now ≡ before
NoReadOfStepFailed before now (Err stop) = Stops (λ text status. NoReadFailed before now status) stop

-- no write has failed, unless the text was not written whole or memory ran out
abbrev pub NoWriteFailed : ℕ → ℕ → ToolStatus → Type 0
NoWriteFailed before now statuses.WriteFault = Unit {0}
NoWriteFailed before now statuses.Memory = Unit {0}
NoWriteFailed before now status = now ≡ before

-- `write` was called once; where memory ran out, once or not at all
abbrev pub WritesOnce : ℕ → ℕ → ToolStatus → Type 0
WritesOnce before now statuses.Memory = (now ≡ next_count before) ⊎ (now ≡ before)
WritesOnce before now status = now ≡ next_count before
