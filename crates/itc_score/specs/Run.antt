-- What a run answers, and why.
use Rattle.std.specs.Prelude.{ℕ, Bool, ◌≡◌, ◌⊎◌, ◌==◌, List, [], length, slice_index_or}
use Rattle.ctt_reader.specs.declared.instance.Instance.{Instance}
use Rattle.timed_solution.specs.declared.times.Times.{Times}
use Rattle.run_core.specs.Texts.{read_fault_text}
use Rattle.run_core.specs.Files.{GivesInstance, GivesTimes, IsUnread, IsRefused, IsFaultyInstance, IsFaultyTimes}
use Rattle.run_core.specs.Outside.{Told, Shelved}
use Rattle.run_core.specs.declared.status.ToolStatus.{ToolStatus}
use Rattle.run_core.specs.declared.status.ToolStatus.TheVariants as statuses
use Rattle.itc_score.specs.Score.{score_of}
use Rattle.itc_score.specs.Texts.{usage_text, score_text}

-- any two words are the names of an instance and of a solution
abbrev pub are_names : List (List ℕ) → Bool
are_names words = length words == 2

-- the words are two names, of which something is said
abbrev pub OfNames : List (List ℕ) → (List ℕ → List ℕ → Type 0) → Type 0
OfNames words said = (length words ≡ 2) × said (slice_index_or words 0 []) (slice_index_or words 1 [])

-- the words aren't two
abbrev pub IsUsage : List (List ℕ) → List ℕ → Type 0
IsUsage words text = (length words ≡ 2 → ⊥) × (text ≡ usage_text)

-- the two files give an instance and a solution, whose score is printed
pub record IsScored (o : Told) (n m text : List ℕ) : Type 0 where
  pub i : Instance
  pub t : Times
  pub instance : GivesInstance o.tells (o.held n) i
  pub times : GivesTimes o.tells (o.held m) i t
  pub is : text ≡ score_text (score_of i t.meetings)

-- the instance is read, and the solution is not
pub record IsUnreadTimes (s : Shelved) (n m text : List ℕ) : Type 0 where
  pub i : Instance
  pub instance : GivesInstance s.told.tells (s.told.held n) i
  pub unread : IsUnread s.told.tells (s.told.held m) s.reads.before s.reads.now
  pub is : text ≡ read_fault_text m

-- the instance is read, and the solution is refused
pub record IsRefusedTimes (o : Told) (n m text : List ℕ) : Type 0 where
  pub i : Instance
  pub instance : GivesInstance o.tells (o.held n) i
  pub refused : IsRefused o.tells (o.held m) (IsFaultyTimes o.tells (o.held m) i) m text

-- the first file that isn't read is named: the instance, or else the solution
abbrev pub IsReadFault : Shelved → List ℕ → List ℕ → List ℕ → Type 0
IsReadFault s n m text =
    (IsUnread s.told.tells (s.told.held n) s.reads.before s.reads.now × (text ≡ read_fault_text n)) ⊎ IsUnreadTimes s n m text

-- the first refusal is printed: of the instance, else of the solution
abbrev pub IsBadInput : Told → List ℕ → List ℕ → List ℕ → Type 0
IsBadInput o n m text =
    IsRefused o.tells (o.held n) (IsFaultyInstance o.tells (o.held n)) n text ⊎ IsRefusedTimes o n m text

abbrev pub NamesExplain : Shelved → List ℕ → List ℕ → List ℕ → ToolStatus → Type 0
NamesExplain s n m text statuses.Done = IsScored s.told n m text
NamesExplain s n m text statuses.BadInput = IsBadInput s.told n m text
NamesExplain s n m text statuses.ReadFault = IsReadFault s n m text
NamesExplain s n m text status = ⊥

-- what is to be printed with each status, and why
abbrev pub Explains : Shelved → List (List ℕ) → List ℕ → ToolStatus → Type 0
Explains s words text statuses.Done = OfNames words (λ n m. IsScored s.told n m text)
Explains s words text statuses.Usage = IsUsage words text
Explains s words text statuses.BadInput = OfNames words (λ n m. IsBadInput s.told n m text)
Explains s words text statuses.ReadFault = OfNames words (λ n m. IsReadFault s n m text)
Explains s words text status = ⊥

-- ---- the second file, after the instance was read

-- the file gives a solution of the instance, whose score is printed
pub record GivesScore (s : Shelved) (i : Instance) (m text : List ℕ) : Type 0 where
  pub t : Times
  pub times : GivesTimes s.told.tells (s.told.held m) i t
  pub is : text ≡ score_text (score_of i t.meetings)

-- what is to be printed of the second file, where it is counted which reads failed since the run began
abbrev pub TimesExplain : Shelved → Instance → List ℕ → List ℕ → ToolStatus → Type 0
TimesExplain s i m text statuses.Done = GivesScore s i m text
TimesExplain s i m text statuses.BadInput = IsRefused s.told.tells (s.told.held m) (IsFaultyTimes s.told.tells (s.told.held m) i) m text
TimesExplain s i m text statuses.ReadFault = IsUnread s.told.tells (s.told.held m) s.reads.before s.reads.now × (text ≡ read_fault_text m)
TimesExplain s i m text status = ⊥
