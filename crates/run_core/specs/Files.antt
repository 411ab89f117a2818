-- What a file gives, and why it gives nothing.
use Rattle.std.specs.Prelude.{ℕ, ◌≡◌, ◌⊎◌, ◌<◌, List, length, Bool, IsTrue, Option, None, IsSomeAnd, Ok, Err, Result}
use Rattle.input_core.specs.Causes.{Rose}
use Rattle.input_core.specs.Reading.{IsWhole}
use Rattle.input_core.specs.declared.faults.LineFault.{LineFault}
use Rattle.ctt_reader.specs.declared.instance.Instance.{Instance}
use Rattle.ctt_reader.specs.Grammar.{ctt_of}
use Rattle.timed_solution.specs.declared.times.Times.{Times}
use Rattle.timed_solution.specs.Times.{times_of}
use Rattle.run_core.specs.Texts.{read_fault_text, too_long_text, bad_line_text}
use Rattle.run_core.specs.declared.answer.Stop.{Stop}
use Rattle.run_core.specs.declared.answer.Stop.TheVariants as stops
use Rattle.run_core.specs.declared.status.ToolStatus.TheVariants as statuses
use Rattle.run_core.specs.declared.file.FileFault.{FileFault}
use Rattle.run_core.specs.declared.file.FileFault.TheVariants as faults

-- the most bytes of an input file
abbrev pub limit : ℕ
limit = 16777216

-- what was read is the text of the instance, and all that the name holds, where the shelf tells it
pub record GivesInstance (tells : Bool) (held : Option (List ℕ)) (i : Instance) : Type 0 where
  pub bytes : List ℕ
  pub whole : IsWhole tells held limit bytes
  pub text : ctt_of bytes ≡ Ok i

pub record GivesTimes (tells : Bool) (held : Option (List ℕ)) (i : Instance) (t : Times) : Type 0 where
  pub bytes : List ℕ
  pub whole : IsWhole tells held limit bytes
  pub text : times_of i bytes ≡ Ok t.meetings

-- why a file is not read: a call failed, or the shelf tells that there is no such name
abbrev pub IsUnread : Bool → Option (List ℕ) → ℕ → ℕ → Type 0
IsUnread tells held before now = Rose before now ⊎ (IsTrue tells × (held ≡ None))

abbrev pub IsLong : Bool → Option (List ℕ) → Type 0
IsLong tells held = IsTrue tells → IsSomeAnd held (λ bytes. limit < length bytes)

-- the bytes of the instance are no text of an instance: the fault is the first
pub record IsFaultyInstance (tells : Bool) (held : Option (List ℕ)) (fault : LineFault) : Type 0 where
  pub bytes : List ℕ
  pub whole : IsWhole tells held limit bytes
  pub refused : ctt_of bytes ≡ Err fault

pub record IsFaultyTimes (tells : Bool) (held : Option (List ℕ)) (i : Instance) (fault : LineFault) : Type 0 where
  pub bytes : List ℕ
  pub whole : IsWhole tells held limit bytes
  pub refused : times_of i bytes ≡ Err fault

-- the file of this name is refused, and why: it is too long, or its first fault is named
abbrev pub IsRefused : Bool → Option (List ℕ) → (LineFault → Type 0) → List ℕ → List ℕ → Type 0
IsRefused tells held faulty name text =
    (IsLong tells held × (text ≡ too_long_text name)) ⊎ ((fault : LineFault) × faulty fault × (text ≡ bad_line_text name fault))

-- a file has no fault, or none that is looked for
abbrev pub NoFault : LineFault → Type 0
NoFault fault = ⊥

-- why the file of this name gives no value, and what is to be printed of it
abbrev pub FileFails : Bool → Option (List ℕ) → ℕ → ℕ → (LineFault → Type 0) → List ℕ → FileFault → Type 0
FileFails tells held before now faulty name faults.Read = IsUnread tells held before now
FileFails tells held before now faulty name (faults.Bad text) = IsRefused tells held faulty name text.items
FileFails tells held before now faulty name faults.Memory = Unit {0}

-- no read has failed, unless the file was not read or memory ran out
abbrev pub NoReadOfFileFailed : {T : Type 0} → ℕ → ℕ → Result T FileFault → Type 0
NoReadOfFileFailed before now (Ok value) = now ≡ before
NoReadOfFileFailed before now (Err (faults.Bad text)) = now ≡ before
NoReadOfFileFailed before now (Err fault) = Unit {0}

-- a faulty line is told, or memory ran out
abbrev pub IsBadLine : List ℕ → LineFault → FileFault → Type 0
IsBadLine name fault faults.Read = ⊥
IsBadLine name fault (faults.Bad text) = text.items ≡ bad_line_text name fault
IsBadLine name fault faults.Memory = Unit {0}

-- what a program answers of a file that gives no value: that it was not read, or the text that says why it is refused;
-- where memory runs out, that
abbrev pub IsStopOf : List ℕ → FileFault → Stop → Type 0
IsStopOf name faults.Read (stops.Answer a) = (a.status ≡ statuses.ReadFault) × (a.text.items ≡ read_fault_text name)
IsStopOf name faults.Read stops.NotPut = ⊥
IsStopOf name faults.Read stops.Memory = Unit {0}
IsStopOf name (faults.Bad text) (stops.Answer a) = (a.status ≡ statuses.BadInput) × (a.text.items ≡ text.items)
IsStopOf name (faults.Bad text) stop = ⊥
IsStopOf name faults.Memory stops.Memory = Unit {0}
IsStopOf name faults.Memory stop = ⊥
