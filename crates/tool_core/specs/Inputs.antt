-- What the three input files give, and why they give nothing.
use Rattle.std.specs.Prelude.{ℕ, zero, suc, ◌≡◌, ◌⊎◌, List, Bool, Option, Some, None, Result, Ok, Err}
use Rattle.input_core.specs.Reading.{IsWhole}
use Rattle.input_core.specs.declared.faults.LineFault.{LineFault}
use Rattle.problem_core.specs.declared.limit.Limit.{Limit}
use Rattle.problem_core.specs.Facts.{Facts}
use Rattle.problem_core.specs.Limits.{limit_of}
use Rattle.ctt_reader.specs.declared.instance.Instance.{Instance}
use Rattle.timed_solution.specs.declared.times.Times.{Times}
use Rattle.measure_file.specs.declared.measures.Measures.{Measures}
use Rattle.measure_file.specs.Grammar.{measures_of}
use Rattle.room_model.specs.ProblemOf.{problem_of}
use Rattle.room_model.specs.Long.{long_fault}
use Rattle.room_model.specs.declared.long.LongFault.{LongFault}
use Rattle.packing_model.specs.Built.{model_limit}
use Rattle.run_core.specs.Outside.{Told}
use Rattle.run_core.specs.Files.{limit, GivesInstance, GivesTimes, IsFaultyInstance, IsFaultyTimes, IsUnread, IsRefused}
use Rattle.run_core.specs.Texts.{read_fault_text}
use Rattle.run_core.specs.declared.file.FileFault.{FileFault}
use Rattle.run_core.specs.declared.file.FileFault.TheVariants as files
use Rattle.run_core.specs.declared.answer.Stop.{Stop}
use Rattle.run_core.specs.declared.answer.Stop.TheVariants as stops
use Rattle.run_core.specs.declared.status.ToolStatus.TheVariants as statuses
use Rattle.reports.specs.Lines.{over_limit_text, long_text}
use Rattle.tool_core.specs.declared.inputs.Names.{Names}
use Rattle.tool_core.specs.declared.inputs.LoadFault.{LoadFault}
use Rattle.tool_core.specs.declared.inputs.LoadFault.TheVariants as faults

abbrev pub names : List ℕ → List ℕ → List ℕ → Names
names instance times measures = record { instance = instance; times = times; measures = measures }

-- ---- what the files give

pub record GivesMeasures (tells : Bool) (held : Option (List ℕ)) (i : Instance) (m : Measures) : Type 0 where
  pub bytes : List ℕ
  pub whole : IsWhole tells held limit bytes
  pub text : measures_of i bytes ≡ Ok m

pub record IsFaultyMeasures (tells : Bool) (held : Option (List ℕ)) (i : Instance) (fault : LineFault) : Type 0 where
  pub bytes : List ℕ
  pub whole : IsWhole tells held limit bytes
  pub refused : measures_of i bytes ≡ Err fault

-- the three files give an instance, times and measures
pub record AreGiven (o : Told) (f : Names) (i : Instance) (t : Times) (m : Measures) : Type 0 where
  pub instance : GivesInstance o.tells (o.held f.instance) i
  pub times : GivesTimes o.tells (o.held f.times) i t
  pub measures : GivesMeasures o.tells (o.held f.measures) i m

-- no meeting is too long, and no limit is passed
pub record HasProblem (i : Instance) (t : Times) (m : Measures) : Type 0 where
  pub short : long_fault i t m ≡ None
  pub few : limit_of (problem_of i t m) ≡ None

-- the files give a problem whose model passes no limit
pub record HasModel (i : Instance) (t : Times) (m : Measures) : Type 0 where
  pub problem : HasProblem i t m
  pub few : model_limit (problem_of i t m) ≡ None

abbrev pub IsProblem : Instance → Times → Measures → Facts → Type 0
IsProblem i t m p = (p ≡ problem_of i t m) × HasProblem i t m

abbrev pub IsModel : Instance → Times → Measures → Facts → Type 0
IsModel i t m p = (p ≡ problem_of i t m) × HasModel i t m

-- ---- why they give nothing

-- a meeting is too long, or else a limit is passed, as the text says
abbrev pub IsNoProblem : Instance → Times → Measures → List ℕ → Type 0
IsNoProblem i t m text =
    ((fault : LongFault) × (long_fault i t m ≡ Some fault) × (text ≡ long_text i t fault))
    ⊎ ((over : Limit) × (long_fault i t m ≡ None) × (limit_of (problem_of i t m) ≡ Some over) × (text ≡ over_limit_text over))

-- the instance is read, and the times are refused
pub record IsRefusedTimes (o : Told) (f : Names) (text : List ℕ) : Type 0 where
  pub i : Instance
  pub instance : GivesInstance o.tells (o.held f.instance) i
  pub refused : IsRefused o.tells (o.held f.times) (IsFaultyTimes o.tells (o.held f.times) i) f.times text

-- the instance and the times are read, and the measures are refused
pub record IsRefusedMeasures (o : Told) (f : Names) (text : List ℕ) : Type 0 where
  pub i : Instance
  pub t : Times
  pub instance : GivesInstance o.tells (o.held f.instance) i
  pub times : GivesTimes o.tells (o.held f.times) i t
  pub refused : IsRefused o.tells (o.held f.measures) (IsFaultyMeasures o.tells (o.held f.measures) i) f.measures text

-- the three files give no problem
pub record IsRefusedProblem (o : Told) (f : Names) (text : List ℕ) : Type 0 where
  pub i : Instance
  pub t : Times
  pub m : Measures
  pub given : AreGiven o f i t m
  pub refused : IsNoProblem i t m text

-- the model of the problem of the three files passes a limit
pub record IsRefusedModel (o : Told) (f : Names) (text : List ℕ) : Type 0 where
  pub i : Instance
  pub t : Times
  pub m : Measures
  pub given : AreGiven o f i t m
  pub problem : HasProblem i t m
  pub over : Limit
  pub passed : model_limit (problem_of i t m) ≡ Some over
  pub is : text ≡ over_limit_text over

-- the first refusal: of the instance, else of the times, else of the measures, else of their problem
abbrev pub AreRefused : Told → Names → List ℕ → Type 0
AreRefused o f text =
    IsRefused o.tells (o.held f.instance) (IsFaultyInstance o.tells (o.held f.instance)) f.instance text
    ⊎ (IsRefusedTimes o f text ⊎ (IsRefusedMeasures o f text ⊎ IsRefusedProblem o f text))

-- the first refusal: of the files and their problem, else of its model
abbrev pub AreRefusedForModel : Told → Names → List ℕ → Type 0
AreRefusedForModel o f text = AreRefused o f text ⊎ IsRefusedModel o f text

-- the instance is read, and the times are not
pub record IsUnreadTimes (o : Told) (f : Names) (before now : ℕ) : Type 0 where
  pub i : Instance
  pub instance : GivesInstance o.tells (o.held f.instance) i
  pub unread : IsUnread o.tells (o.held f.times) before now

-- the instance and the times are read, and the measures are not
pub record IsUnreadMeasures (o : Told) (f : Names) (before now : ℕ) : Type 0 where
  pub i : Instance
  pub t : Times
  pub instance : GivesInstance o.tells (o.held f.instance) i
  pub times : GivesTimes o.tells (o.held f.times) i t
  pub unread : IsUnread o.tells (o.held f.measures) before now

-- the first file that isn't read: 0 is the instance, 1 the times, 2 the measures
abbrev pub IsUnreadFile : Told → Names → ℕ → ℕ → ℕ → Type 0
IsUnreadFile o f before now zero = IsUnread o.tells (o.held f.instance) before now
IsUnreadFile o f before now (suc zero) = IsUnreadTimes o f before now
IsUnreadFile o f before now (suc (suc zero)) = IsUnreadMeasures o f before now
IsUnreadFile o f before now (suc (suc (suc file))) = ⊥

-- why a load gives nothing, where a text is that of a refusal
abbrev pub LoadFails : Told → Names → ℕ → ℕ → (List ℕ → Type 0) → LoadFault → Type 0
LoadFails o f before now refused (faults.Read file) = IsUnreadFile o f before now file
LoadFails o f before now refused (faults.Bad text) = refused text.items
LoadFails o f before now refused faults.Memory = Unit {0}

-- no read has failed, unless a file was not read or memory ran out
abbrev pub NoReadOfLoadFailed : {T : Type 0} → ℕ → ℕ → Result T LoadFault → Type 0
NoReadOfLoadFailed before now (Ok value) = now ≡ before
NoReadOfLoadFailed before now (Err (faults.Bad text)) = now ≡ before
NoReadOfLoadFailed before now (Err fault) = Unit {0}

-- the name of a file: 0 is the instance, 1 the times, any other the measures
abbrev pub name_of : Names → ℕ → List ℕ
name_of f zero = f.instance
name_of f (suc zero) = f.times
name_of f (suc (suc file)) = f.measures

-- the fault of the file of this number
abbrev pub fault_in : ℕ → FileFault → LoadFault
fault_in file files.Read = faults.Read file
fault_in file (files.Bad text) = faults.Bad text
fault_in file files.Memory = faults.Memory

-- why the values of the files give no problem
abbrev pub ProblemFails : Instance → Times → Measures → LoadFault → Type 0
ProblemFails i t m (faults.Read file) = ⊥
ProblemFails i t m (faults.Bad text) = IsNoProblem i t m text.items
ProblemFails i t m faults.Memory = Unit {0}

-- why a problem has no model
abbrev pub ModelFails : Facts → LoadFault → Type 0
ModelFails p (faults.Read file) = ⊥
ModelFails p (faults.Bad text) = (over : Limit) × (model_limit p ≡ Some over) × (text.items ≡ over_limit_text over)
ModelFails p faults.Memory = Unit {0}

-- what a program answers of files that give nothing: which was not read, or the text that says why they are refused;
-- where memory runs out, that
abbrev pub IsStopOfLoad : Names → LoadFault → Stop → Type 0
IsStopOfLoad f (faults.Read file) (stops.Answer a) = (a.status ≡ statuses.ReadFault) × (a.text.items ≡ read_fault_text (name_of f file))
IsStopOfLoad f (faults.Read file) stops.NotPut = ⊥
IsStopOfLoad f (faults.Read file) stops.Memory = Unit {0}
IsStopOfLoad f (faults.Bad text) (stops.Answer a) = (a.status ≡ statuses.BadInput) × (a.text.items ≡ text.items)
IsStopOfLoad f (faults.Bad text) stop = ⊥
IsStopOfLoad f faults.Memory stops.Memory = Unit {0}
IsStopOfLoad f faults.Memory stop = ⊥
