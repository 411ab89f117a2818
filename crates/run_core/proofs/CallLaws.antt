-- Which calls have failed, from step to step.
use Rattle.std.proofs.Common.{ℕ, ◌≡◌, ◌≤◌, arith, inl, inr, sym, subst, List, [], Bool}
use Rattle.std.specs.Prelude.{Option, Result, Ok, Err}
use Rattle.input_core.specs.Causes.{next_count, Rose}
use Rattle.run_core.specs.Calls.{Stops, NoReadFailed, NoReadOfStepFailed, NoWriteFailed, WritesOnce}
use Rattle.run_core.specs.Ends.{PrintEnds}
use Rattle.run_core.specs.Files.{IsUnread}
use Rattle.run_core.specs.Outside.{Printed}
use Rattle.run_core.specs.declared.answer.Stop.{Stop}
use Rattle.run_core.specs.declared.answer.Stop.TheVariants as stops
use Rattle.run_core.specs.declared.status.ToolStatus.{ToolStatus}
use Rattle.run_core.specs.declared.status.ToolStatus.TheVariants.{Done, No, Usage, Open, BadInput, ReadFault, WriteFault, Memory}

pub no_read_failed : (before now : ℕ) (status : ToolStatus) → now ≡ before → NoReadFailed before now status
no_read_failed before now Done e = e
no_read_failed before now No e = e
no_read_failed before now Usage e = e
no_read_failed before now Open e = e
no_read_failed before now BadInput e = e
no_read_failed before now ReadFault e = tt
no_read_failed before now WriteFault e = tt
no_read_failed before now Memory e = tt

pub no_write_failed : (before now : ℕ) (status : ToolStatus) → now ≡ before → NoWriteFailed before now status
no_write_failed before now Done e = e
no_write_failed before now No e = e
no_write_failed before now Usage e = e
no_write_failed before now Open e = e
no_write_failed before now BadInput e = e
no_write_failed before now ReadFault e = e
no_write_failed before now WriteFault e = tt
no_write_failed before now Memory e = tt

pub writes_once : (before now : ℕ) (status : ToolStatus) → now ≡ next_count before → WritesOnce before now status
writes_once before now Done e = e
writes_once before now No e = e
writes_once before now Usage e = e
writes_once before now Open e = e
writes_once before now BadInput e = e
writes_once before now ReadFault e = e
writes_once before now WriteFault e = e
writes_once before now Memory e = inl e

-- a step that reads nothing
pub reads_nothing : {T : Type 0} (before now : ℕ) (r : Result T Stop) → now ≡ before → NoReadOfStepFailed before now r
reads_nothing before now (Ok x) e = e
reads_nothing before now (Err (stops.Answer a)) e = no_read_failed before now a.status e
reads_nothing before now (Err stops.NotPut) e = tt
reads_nothing before now (Err stops.Memory) e = tt

-- a step after one that went well
pub reads_after : {T : Type 0} (before mid now : ℕ) (r : Result T Stop) → mid ≡ before → NoReadOfStepFailed mid now r → NoReadOfStepFailed before now r
reads_after before mid now r e h = subst (λ b. NoReadOfStepFailed b now r) e h

-- the text of an answer is written after it was found
pub reads_before_write : (before now : ℕ) (p : Printed) (wanted : ToolStatus) (text : List ℕ) (status : ToolStatus)
    → NoReadFailed before now wanted → PrintEnds p wanted text status → NoReadFailed before now status
reads_before_write before now p wanted text status reads (inl h) = subst (NoReadFailed before now) (sym h.0) reads
reads_before_write before now p wanted text status reads (inr (inl h)) = subst (NoReadFailed before now) (sym h.0) tt
reads_before_write before now p wanted text status reads (inr (inr h)) = subst (NoReadFailed before now) (sym h.0) tt

-- ---- an earlier count

pub rose_earlier : (a b c : ℕ) → a ≤ b → Rose b c → Rose a c
rose_earlier a b c l h = omega arith

pub unread_earlier : (tells : Bool) (held : Option (List ℕ)) (a b c : ℕ) → a ≤ b → IsUnread tells held b c → IsUnread tells held a c
unread_earlier tells held a b c l (inl rose) = inl (rose_earlier a b c l rose)
unread_earlier tells held a b c l (inr unknown) = inr unknown

-- ---- what stops a command

-- what explains more, explains what stops
pub stops_weaker : (explain other : List ℕ → ToolStatus → Type 0) (stop : Stop) → ((text : List ℕ) (status : ToolStatus) → explain text status → other text status) → Stops explain stop → Stops other stop
stops_weaker explain other (stops.Answer a) more h = more a.text.items a.status h
stops_weaker explain other stops.NotPut more h = more [] WriteFault h
stops_weaker explain other stops.Memory more h = tt
