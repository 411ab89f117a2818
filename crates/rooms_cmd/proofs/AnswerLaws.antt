-- What is said of an answer, from what is said of a step's answer; and what stops a command before its files are read.
use Rattle.std.proofs.Common.{ℕ, ◌≡◌, ◌≤◌, ◌∙◌, refl, sym, subst, List, [], Bool}
use Rattle.std.specs.Prelude.{Option, Result, Ok, Err}
use Rattle.input_core.specs.Shelf.{OnlyReads}
use Rattle.run_core.specs.Calls.{Stops, NoReadFailed}
use Rattle.run_core.specs.Outside.{Told, Held, shelved, Shelved, KeepsAll, KeepsBut}
use Rattle.run_core.specs.Texts.{read_fault_text}
use Rattle.run_core.specs.declared.answer.Answer.{Answer}
use Rattle.run_core.specs.declared.answer.Stop.{Stop}
use Rattle.run_core.specs.declared.answer.Stop.TheVariants as stops
use Rattle.run_core.specs.declared.status.ToolStatus.{ToolStatus}
use Rattle.run_core.specs.declared.status.ToolStatus.TheVariants.{Done, No, Usage, Open, BadInput, ReadFault, WriteFault, Memory}
use Rattle.run_core.proofs.CallLaws.{no_read_failed}
use Rattle.tool_core.specs.Inputs.{IsUnreadFile, LoadFails, NoReadOfLoadFailed, IsStopOfLoad, name_of, names}
use Rattle.tool_core.specs.declared.inputs.Names.{Names}
use Rattle.tool_core.specs.declared.inputs.LoadFault.{LoadFault}
use Rattle.tool_core.specs.declared.inputs.LoadFault.TheVariants as faults
use Rattle.rooms_cmd.specs.Run.{AnswerIs, StatusIs, KeepsWhereRefused, NoPutFailed}

-- ---- answers

pub answer_weaker : (said other : List ℕ → ToolStatus → Type 0) (r : Result Answer Stop) → ((text : List ℕ) (status : ToolStatus) → said text status → other text status) → AnswerIs said r → AnswerIs other r
answer_weaker said other (Ok a) more h = more a.text.items a.status h
answer_weaker said other (Err (stops.Answer a)) more h = more a.text.items a.status h
answer_weaker said other (Err stops.NotPut) more h = more [] WriteFault h
answer_weaker said other (Err stops.Memory) more h = tt

-- what holds of every status
pub each_status : (said : ToolStatus → Type 0) (r : Result Answer Stop) → ((status : ToolStatus) → said status) → StatusIs said r
each_status said (Ok a) all = all a.status
each_status said (Err (stops.Answer a)) all = all a.status
each_status said (Err stops.NotPut) all = all WriteFault
each_status said (Err stops.Memory) all = tt

pub each_stop : (said : ToolStatus → Type 0) (stop : Stop) → ((status : ToolStatus) → said status) → Stops (λ text status. said status) stop
each_stop said (stops.Answer a) all = all a.status
each_stop said stops.NotPut all = all WriteFault
each_stop said stops.Memory all = tt

pub keeps_where_refused : (s : Shelved) → KeepsAll s → (status : ToolStatus) → KeepsWhereRefused s status
keeps_where_refused s kept Done = tt
keeps_where_refused s kept No = kept
keeps_where_refused s kept Usage = kept
keeps_where_refused s kept Open = tt
keeps_where_refused s kept BadInput = kept
keeps_where_refused s kept ReadFault = kept
keeps_where_refused s kept WriteFault = tt
keeps_where_refused s kept Memory = tt

pub no_put_failed : (before now : ℕ) → now ≡ before → (status : ToolStatus) → NoPutFailed before now status
no_put_failed before now e Done = e
no_put_failed before now e No = e
no_put_failed before now e Usage = e
no_put_failed before now e Open = e
no_put_failed before now e BadInput = e
no_put_failed before now e ReadFault = e
no_put_failed before now e WriteFault = tt
no_put_failed before now e Memory = tt

-- a step that reads nothing, or puts nothing
pub status_reads : (before now : ℕ) (r : Result Answer Stop) → now ≡ before → StatusIs (NoReadFailed before now) r
status_reads before now r e = each_status (NoReadFailed before now) r (λ status. no_read_failed before now status e)

pub status_puts : (before now : ℕ) (r : Result Answer Stop) → now ≡ before → StatusIs (NoPutFailed before now) r
status_puts before now r e = each_status (NoPutFailed before now) r (no_put_failed before now e)

-- a step after one that read or put nothing
pub reads_later : (before mid now : ℕ) (r : Result Answer Stop) → mid ≡ before → StatusIs (NoReadFailed mid now) r → StatusIs (NoReadFailed before now) r
reads_later before mid now r e h = subst (λ b. StatusIs (NoReadFailed b now) r) e h

pub puts_later : (before mid now : ℕ) (r : Result Answer Stop) → mid ≡ before → StatusIs (NoPutFailed mid now) r → StatusIs (NoPutFailed before now) r
puts_later before mid now r e h = subst (λ b. StatusIs (NoPutFailed b now) r) e h

-- ---- over a shelf that was only read

pub keeps_all : {S : Type 0} (tells : S → Bool) (held : S → Held) (piece_faults put_faults : S → ℕ) (a b : S) → OnlyReads tells held piece_faults put_faults a b → KeepsAll (shelved tells held piece_faults put_faults a b)
keeps_all tells held piece_faults put_faults a b only = only.same_names

pub keeps_but : {S : Type 0} (tells : S → Bool) (held : S → Held) (piece_faults put_faults : S → ℕ) (a b c : S) (name : List ℕ) → OnlyReads tells held piece_faults put_faults a b
    → KeepsBut name (shelved tells held piece_faults put_faults b c) → KeepsBut name (shelved tells held piece_faults put_faults a c)
keeps_but tells held piece_faults put_faults a b c name only kept = λ other differs. kept other differs ∙ only.same_names other

refused_later : {S : Type 0} (tells : S → Bool) (held : S → Held) (piece_faults put_faults : S → ℕ) (a b c : S) → OnlyReads tells held piece_faults put_faults a b → (status : ToolStatus)
    → KeepsWhereRefused (shelved tells held piece_faults put_faults b c) status → KeepsWhereRefused (shelved tells held piece_faults put_faults a c) status
refused_later tells held piece_faults put_faults a b c only Done h = tt
refused_later tells held piece_faults put_faults a b c only No h = λ name. h name ∙ only.same_names name
refused_later tells held piece_faults put_faults a b c only Usage h = λ name. h name ∙ only.same_names name
refused_later tells held piece_faults put_faults a b c only Open h = tt
refused_later tells held piece_faults put_faults a b c only BadInput h = λ name. h name ∙ only.same_names name
refused_later tells held piece_faults put_faults a b c only ReadFault h = λ name. h name ∙ only.same_names name
refused_later tells held piece_faults put_faults a b c only WriteFault h = tt
refused_later tells held piece_faults put_faults a b c only Memory h = tt

pub refused_after : {S : Type 0} (tells : S → Bool) (held : S → Held) (piece_faults put_faults : S → ℕ) (a b c : S) (r : Result Answer Stop) → OnlyReads tells held piece_faults put_faults a b
    → StatusIs (KeepsWhereRefused (shelved tells held piece_faults put_faults b c)) r → StatusIs (KeepsWhereRefused (shelved tells held piece_faults put_faults a c)) r
refused_after tells held piece_faults put_faults a b c r only h =
    answer_weaker (λ text status. KeepsWhereRefused (shelved tells held piece_faults put_faults b c) status) (λ text status. KeepsWhereRefused (shelved tells held piece_faults put_faults a c) status) r
    (λ text status. refused_later tells held piece_faults put_faults a b c only status) h

-- the names that the words give
pub names_are : (f : Names) (a b c : List ℕ) → a ≡ f.instance → b ≡ f.times → c ≡ f.measures → names a b c ≡ f
names_are f a b c d e g = rw (d, e, g) refl
