-- What a run answers, by the command that its words give, and what it leaves.
use Rattle.std.specs.Prelude.{ℕ, ◌≡◌, ◌⊎◌, List, Option, Some, None, Result, Ok, Err}
use Rattle.input_core.specs.Causes.{next_count}
use Rattle.run_core.specs.Outside.{Shelved, KeepsAll, KeepsBut}
use Rattle.run_core.specs.declared.answer.Answer.{Answer}
use Rattle.run_core.specs.declared.answer.Stop.{Stop}
use Rattle.run_core.specs.Calls.{Stops}
use Rattle.run_core.specs.declared.status.ToolStatus.{ToolStatus}
use Rattle.run_core.specs.declared.status.ToolStatus.TheVariants as statuses
use Rattle.tool_core.specs.Inputs.{AreRefused, AreRefusedForModel}
use Rattle.tool_core.specs.declared.inputs.Names.{Names}
use Rattle.command_words.specs.declared.words.Command.{Command}
use Rattle.command_words.specs.declared.words.Command.TheVariants.{Solve, Check, Recert, Measure, Report, Demo}
use Rattle.rooms_cmd.specs.Answers.{usage_text}
use Rattle.rooms_cmd.specs.Unread.{IsUnreadInput}
use Rattle.rooms_cmd.specs.Work.{Work}
use Rattle.rooms_cmd.specs.Solving.{IsSolved, IsLeftOpen, IsNotPut}
use Rattle.rooms_cmd.specs.Checking.{IsJudged, SaysVerified, SaysNot, SaysShared, IsRefusedWith, IsUnreadWith}
use Rattle.rooms_cmd.specs.Measuring.{IsMeasured, IsIllegal}
use Rattle.rooms_cmd.specs.Reporting.{IsReported}
use Rattle.rooms_cmd.specs.Demonstrating.{IsDemonstrated, IsDemonstratedOpen}

-- ---- why a text is printed with each status

-- what was asked for was found, or verified, or measured, or reported
abbrev pub IsDone : Shelved → Option Command → List ℕ → Type 0
IsDone s (Some (Solve f certificate budget)) text = IsSolved s f certificate budget text
IsDone s (Some (Check f certificate)) text = IsJudged s.told f certificate text SaysVerified
IsDone s (Some (Recert f certificate new)) text = IsJudged s.told f certificate text (SaysShared s new)
IsDone s (Some (Measure f)) text = IsMeasured s.told f text
IsDone s (Some (Report f json)) text = IsReported s.told f json text
IsDone s (Some (Demo courses budget)) text = IsDemonstrated courses budget text
IsDone s None text = ⊥

-- the certificate isn't valid, or the given rooms aren't legal
abbrev pub IsNo : Shelved → Option Command → List ℕ → Type 0
IsNo s (Some (Check f certificate)) text = IsJudged s.told f certificate text SaysNot
IsNo s (Some (Recert f certificate new)) text = IsJudged s.told f certificate text SaysNot
IsNo s (Some (Measure f)) text = IsIllegal s.told f text
IsNo s (Some (Report f json)) text = IsIllegal s.told f text
IsNo s command text = ⊥

-- the words are no command
abbrev pub IsUsage : Option Command → List ℕ → Type 0
IsUsage None text = text ≡ usage_text
IsUsage (Some command) text = ⊥

-- the budget of `solve` or `demo` was spent
abbrev pub IsOpen : Shelved → Work → Option Command → List ℕ → Type 0
IsOpen s w (Some (Solve f certificate budget)) text = IsLeftOpen s w f certificate budget text
IsOpen s w (Some (Demo courses budget)) text = IsDemonstratedOpen w courses budget text
IsOpen s w command text = ⊥

-- the first refusal of the command's files
abbrev pub IsBadInput : Shelved → Option Command → List ℕ → Type 0
IsBadInput s (Some (Solve f certificate budget)) text = AreRefusedForModel s.told f text
IsBadInput s (Some (Check f certificate)) text = IsRefusedWith s.told f certificate text
IsBadInput s (Some (Recert f certificate new)) text = IsRefusedWith s.told f certificate text
IsBadInput s (Some (Measure f)) text = AreRefused s.told f text
IsBadInput s (Some (Report f json)) text = AreRefused s.told f text
IsBadInput s (Some (Demo courses budget)) text = ⊥
IsBadInput s None text = ⊥

-- the first of the command's files that isn't read
abbrev pub IsUnread : Shelved → Option Command → List ℕ → Type 0
IsUnread s (Some (Solve f certificate budget)) text = IsUnreadInput s f text
IsUnread s (Some (Check f certificate)) text = IsUnreadWith s f certificate text
IsUnread s (Some (Recert f certificate new)) text = IsUnreadWith s f certificate text
IsUnread s (Some (Measure f)) text = IsUnreadInput s f text
IsUnread s (Some (Report f json)) text = IsUnreadInput s f text
IsUnread s (Some (Demo courses budget)) text = ⊥
IsUnread s None text = ⊥

-- the file that the command writes could not be put; there is no text
abbrev pub IsUnwritten : Shelved → Option Command → List ℕ → Type 0
IsUnwritten s (Some (Solve f certificate budget)) text = IsNotPut s f text
IsUnwritten s (Some (Recert f certificate new)) text = IsNotPut s f text
IsUnwritten s command text = ⊥

-- the text that is to be printed with each status, and why
abbrev pub Explains : Shelved → Work → Option Command → List ℕ → ToolStatus → Type 0
Explains s w command text statuses.Done = IsDone s command text
Explains s w command text statuses.No = IsNo s command text
Explains s w command text statuses.Usage = IsUsage command text
Explains s w command text statuses.Open = IsOpen s w command text
Explains s w command text statuses.BadInput = IsBadInput s command text
Explains s w command text statuses.ReadFault = IsUnread s command text
Explains s w command text statuses.WriteFault = IsUnwritten s command text
Explains s w command text statuses.Memory = ⊥

-- ---- what the names hold after a run

-- every name but the one that the command writes holds what it held
abbrev pub Keeps : Shelved → Option Command → Type 0
Keeps s (Some (Solve f certificate budget)) = KeepsBut certificate s
Keeps s (Some (Recert f certificate new)) = KeepsBut new s
Keeps s command = KeepsAll s

-- a file holds what it held
abbrev pub IsKept : Shelved → List ℕ → Type 0
IsKept s name = s.holds name ≡ s.told.held name

pub record AreKept (s : Shelved) (f : Names) : Type 0 where
  pub instance : IsKept s f.instance
  pub times : IsKept s f.times
  pub measures : IsKept s f.measures

-- every file that the command reads holds what it held
abbrev pub KeepsInputs : Shelved → Option Command → Type 0
KeepsInputs s (Some (Solve f certificate budget)) = AreKept s f
KeepsInputs s (Some (Check f certificate)) = AreKept s f × IsKept s certificate
KeepsInputs s (Some (Recert f certificate new)) = AreKept s f × IsKept s certificate
KeepsInputs s (Some (Measure f)) = AreKept s f
KeepsInputs s (Some (Report f json)) = AreKept s f
KeepsInputs s (Some (Demo courses budget)) = Unit {0}
KeepsInputs s None = Unit {0}

-- with these statuses nothing was put: every name holds what it held
abbrev pub KeepsWhereRefused : Shelved → ToolStatus → Type 0
KeepsWhereRefused s statuses.No = KeepsAll s
KeepsWhereRefused s statuses.Usage = KeepsAll s
KeepsWhereRefused s statuses.BadInput = KeepsAll s
KeepsWhereRefused s statuses.ReadFault = KeepsAll s
KeepsWhereRefused s status = Unit {0}

-- `demo` makes no call of the shelf: it is as it was
abbrev pub LeavesShelf : {S : Type 0} → S → S → Option Command → Type 0
LeavesShelf old new (Some (Demo courses budget)) = new ≡ old
LeavesShelf old new command = Unit {0}

-- ---- which calls were made

-- `write` was called once; where memory ran out or a file was not put, once or not at all
abbrev pub WritesOnce : ℕ → ℕ → ToolStatus → Type 0
WritesOnce before now statuses.Memory = (now ≡ next_count before) ⊎ (now ≡ before)
WritesOnce before now statuses.WriteFault = (now ≡ next_count before) ⊎ (now ≡ before)
WritesOnce before now status = now ≡ next_count before

-- no put has failed, unless the answer was not written or memory ran out
abbrev pub NoPutFailed : ℕ → ℕ → ToolStatus → Type 0
NoPutFailed before now statuses.WriteFault = Unit {0}
NoPutFailed before now statuses.Memory = Unit {0}
NoPutFailed before now status = now ≡ before

-- ---- a step that ends with an answer, or stops with one

-- something holds of the text and the status that the step ends with; of want of memory nothing is said
abbrev pub AnswerIs : (List ℕ → ToolStatus → Type 0) → Result Answer Stop → Type 0
AnswerIs said (Ok a) = said a.text.items a.status
AnswerIs said (Err stop) = Stops said stop

abbrev pub StatusIs : (ToolStatus → Type 0) → Result Answer Stop → Type 0
StatusIs said result = AnswerIs (λ text status. said status) result
