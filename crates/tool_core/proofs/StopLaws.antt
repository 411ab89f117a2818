-- From three files that give nothing to what stops a command.
use Rattle.std.proofs.Common.{ℕ, sym, subst, List}
use Rattle.std.specs.Prelude.{Err}
use Rattle.run_core.specs.Outside.{Told}
use Rattle.run_core.specs.Texts.{read_fault_text}
use Rattle.run_core.specs.Calls.{Stops, NoReadFailed, NoReadOfStepFailed}
use Rattle.run_core.specs.declared.answer.Stop.{Stop}
use Rattle.run_core.specs.declared.answer.Stop.TheVariants as stops
use Rattle.run_core.specs.declared.status.ToolStatus.{ToolStatus}
use Rattle.run_core.specs.declared.status.ToolStatus.TheVariants.{BadInput, ReadFault}
use Rattle.tool_core.specs.declared.inputs.Names.{Names}
use Rattle.tool_core.specs.declared.inputs.LoadFault.{LoadFault}
use Rattle.tool_core.specs.declared.inputs.LoadFault.TheVariants as faults
use Rattle.tool_core.specs.Inputs.{IsUnreadFile, LoadFails, NoReadOfLoadFailed, name_of, IsStopOfLoad}

-- files that are not read or refused stop a command, where that is explained
pub load_stopping : (o : Told) (f : Names) (before now : ℕ) (refused : List ℕ → Type 0) (fault : LoadFault) (stop : Stop) (explain : List ℕ → ToolStatus → Type 0)
    → ((file : ℕ) → IsUnreadFile o f before now file → explain (read_fault_text (name_of f file)) ReadFault) → ((text : List ℕ) → refused text → explain text BadInput)
    → LoadFails o f before now refused fault → IsStopOfLoad f fault stop → Stops explain stop
load_stopping o f before now refused (faults.Read file) (stops.Answer a) explain unread bad why is =
    subst (λ s. explain a.text.items s) (sym is.0) (subst (λ text. explain text ReadFault) (sym is.1) (unread file why))
load_stopping o f before now refused (faults.Read file) stops.NotPut explain unread bad why is = absurd is
load_stopping o f before now refused (faults.Read file) stops.Memory explain unread bad why is = tt
load_stopping o f before now refused (faults.Bad text) (stops.Answer a) explain unread bad why is =
    subst (λ s. explain a.text.items s) (sym is.0) (subst (λ said. explain said BadInput) (sym is.1) (bad text.items why))
load_stopping o f before now refused (faults.Bad text) stops.NotPut explain unread bad why is = absurd is
load_stopping o f before now refused (faults.Bad text) stops.Memory explain unread bad why is = tt
load_stopping o f before now refused faults.Memory (stops.Answer a) explain unread bad why is = absurd is
load_stopping o f before now refused faults.Memory stops.NotPut explain unread bad why is = absurd is
load_stopping o f before now refused faults.Memory stops.Memory explain unread bad why is = tt

-- which reads failed
pub load_reads : (T U : Type 0) (before now : ℕ) (f : Names) (fault : LoadFault) (stop : Stop)
    → NoReadOfLoadFailed {T = T} before now (Err fault) → IsStopOfLoad f fault stop → NoReadOfStepFailed {T = U} before now (Err stop)
load_reads T U before now f (faults.Read file) (stops.Answer a) kept is = subst (NoReadFailed before now) (sym is.0) tt
load_reads T U before now f (faults.Read file) stops.NotPut kept is = absurd is
load_reads T U before now f (faults.Read file) stops.Memory kept is = tt
load_reads T U before now f (faults.Bad text) (stops.Answer a) kept is = subst (NoReadFailed before now) (sym is.0) kept
load_reads T U before now f (faults.Bad text) stops.NotPut kept is = absurd is
load_reads T U before now f (faults.Bad text) stops.Memory kept is = absurd is
load_reads T U before now f faults.Memory (stops.Answer a) kept is = absurd is
load_reads T U before now f faults.Memory stops.NotPut kept is = absurd is
load_reads T U before now f faults.Memory stops.Memory kept is = tt
