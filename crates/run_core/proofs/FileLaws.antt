-- From a file that gives no value to what stops a command; and what a file gives, over what the shelf told before.
use Rattle.std.proofs.Common.{ℕ, ◌≡◌, ◌≤◌, sym, subst, List, Bool}
use Rattle.std.specs.Prelude.{Option, Err}
use Rattle.input_core.specs.declared.faults.LineFault.{LineFault}
use Rattle.run_core.specs.Texts.{read_fault_text}
use Rattle.run_core.specs.Calls.{Stops, NoReadFailed, NoReadOfStepFailed}
use Rattle.run_core.specs.Files.{IsUnread, IsRefused, FileFails, NoReadOfFileFailed, IsStopOf}
use Rattle.run_core.specs.declared.answer.Stop.{Stop}
use Rattle.run_core.specs.declared.answer.Stop.TheVariants as stops
use Rattle.run_core.specs.declared.file.FileFault.{FileFault}
use Rattle.run_core.specs.declared.file.FileFault.TheVariants as faults
use Rattle.run_core.specs.declared.status.ToolStatus.{ToolStatus}
use Rattle.run_core.specs.declared.status.ToolStatus.TheVariants.{BadInput, ReadFault}
use Rattle.run_core.proofs.CallLaws.{unread_earlier}

-- a file that is not read or refused stops a command, where that is explained
pub file_stopping : (tells : Bool) (held : Option (List ℕ)) (before now : ℕ) (faulty : LineFault → Type 0) (name : List ℕ) (fault : FileFault) (stop : Stop) (explain : List ℕ → ToolStatus → Type 0)
    → (IsUnread tells held before now → explain (read_fault_text name) ReadFault) → ((text : List ℕ) → IsRefused tells held faulty name text → explain text BadInput)
    → FileFails tells held before now faulty name fault → IsStopOf name fault stop → Stops explain stop
file_stopping tells held before now faulty name faults.Read (stops.Answer a) explain unread refused why is =
    subst (λ s. explain a.text.items s) (sym is.0) (subst (λ text. explain text ReadFault) (sym is.1) (unread why))
file_stopping tells held before now faulty name faults.Read stops.NotPut explain unread refused why is = absurd is
file_stopping tells held before now faulty name faults.Read stops.Memory explain unread refused why is = tt
file_stopping tells held before now faulty name (faults.Bad text) (stops.Answer a) explain unread refused why is =
    subst (λ s. explain a.text.items s) (sym is.0) (subst (λ said. explain said BadInput) (sym is.1) (refused text.items why))
file_stopping tells held before now faulty name (faults.Bad text) stops.NotPut explain unread refused why is = absurd is
file_stopping tells held before now faulty name (faults.Bad text) stops.Memory explain unread refused why is = tt
file_stopping tells held before now faulty name faults.Memory (stops.Answer a) explain unread refused why is = absurd is
file_stopping tells held before now faulty name faults.Memory stops.NotPut explain unread refused why is = absurd is
file_stopping tells held before now faulty name faults.Memory stops.Memory explain unread refused why is = tt

-- which reads failed
pub file_reads : (T U : Type 0) (before now : ℕ) (name : List ℕ) (fault : FileFault) (stop : Stop)
    → NoReadOfFileFailed {T = T} before now (Err fault) → IsStopOf name fault stop → NoReadOfStepFailed {T = U} before now (Err stop)
file_reads T U before now name faults.Read (stops.Answer a) kept is = subst (NoReadFailed before now) (sym is.0) tt
file_reads T U before now name faults.Read stops.NotPut kept is = absurd is
file_reads T U before now name faults.Read stops.Memory kept is = tt
file_reads T U before now name (faults.Bad text) (stops.Answer a) kept is = subst (NoReadFailed before now) (sym is.0) kept
file_reads T U before now name (faults.Bad text) stops.NotPut kept is = absurd is
file_reads T U before now name (faults.Bad text) stops.Memory kept is = absurd is
file_reads T U before now name faults.Memory (stops.Answer a) kept is = absurd is
file_reads T U before now name faults.Memory stops.NotPut kept is = absurd is
file_reads T U before now name faults.Memory stops.Memory kept is = tt

-- ---- over what the shelf told before an earlier file was read

pub told_before : (P : Bool → Option (List ℕ) → Type 0) (tells tells' : Bool) (held held' : Option (List ℕ)) → tells' ≡ tells → held' ≡ held → P tells' held' → P tells held
told_before P tells tells' held held' e f h = subst (λ b. P b held) e (subst (λ s. P tells' s) f h)

pub told_after : (P : Bool → Option (List ℕ) → Type 0) (tells tells' : Bool) (held held' : Option (List ℕ)) → tells' ≡ tells → held' ≡ held → P tells held → P tells' held'
told_after P tells tells' held held' e f h = subst (λ b. P b held') (sym e) (subst (λ s. P tells s) (sym f) h)

pub fails_earlier : (tells tells' : Bool) (held held' : Option (List ℕ)) (before mid now : ℕ) (faulty : Bool → Option (List ℕ) → LineFault → Type 0) (name : List ℕ) (fault : FileFault)
    → tells' ≡ tells → held' ≡ held → before ≤ mid → FileFails tells' held' mid now (faulty tells' held') name fault → FileFails tells held before now (faulty tells held) name fault
fails_earlier tells tells' held held' before mid now faulty name fault e f l h =
    go fault (told_before (λ b s. FileFails b s mid now (faulty b s) name fault) tells tells' held held' e f h)
  where
    go : (fault : FileFault) → FileFails tells held mid now (faulty tells held) name fault → FileFails tells held before now (faulty tells held) name fault
    go faults.Read h = unread_earlier tells held before mid now l h
    go (faults.Bad text) h = h
    go faults.Memory h = tt
