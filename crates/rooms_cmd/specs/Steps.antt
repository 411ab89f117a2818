-- What the steps of the commands answer, once the three files are read.
use Rattle.std.specs.Prelude.{ℕ, ℤ, pos, ◌≡◌, ◌⊎◌, ◌-◌, ◌++◌, length, true, List, [], Bool, Option, Some, IsTrue}
use Rattle.input_core.specs.Causes.{Rose}
use Rattle.input_core.specs.Reading.{IsWhole}
use Rattle.input_core.specs.declared.read.ReadRefusal.{ReadRefusal}
use Rattle.input_core.specs.declared.read.ReadRefusal.TheVariants as refusals
use Rattle.std.specs.List.{AllByRecursion}
use Rattle.problem_core.specs.Facts.{Facts}
use Rattle.problem_core.specs.Kept.{IsWithin}
use Rattle.problem_core.specs.Choice.{IsLegal}
use Rattle.problem_core.specs.Measures.{measures}
use Rattle.problem_core.specs.Faults.{first_fault}
use Rattle.problem_core.specs.declared.choice.RoomFault.{RoomFault}
use Rattle.ctt_reader.specs.declared.instance.Instance.{Instance}
use Rattle.timed_solution.specs.declared.times.Times.{Times}
use Rattle.measure_file.specs.declared.measures.Measures.{Measures}
use Rattle.room_model.specs.ProblemOf.{problem_of, given_rooms}
use Rattle.cert_text.specs.declared.lines.Certificate.{Certificate}
use Rattle.cert_text.specs.Grammar.{is_writable}
use Rattle.cert_text.specs.Text.{IsText}
use Rattle.cert_text.specs.Sharing.{share, plain}
use Rattle.cert_checker.specs.Verdicts.{IsValid}
use Rattle.cert_checker.specs.declared.verdict.Verdict.{Verdict}
use Rattle.cert_checker.specs.declared.verdict.Verdict.TheVariants.{Verified, Not}
use Rattle.lex_driver.specs.Solving.{Solves}
use Rattle.lex_driver.specs.declared.solve.Solved.{Solved}
use Rattle.lex_driver.specs.declared.solve.Solved.TheVariants.{Optimal, Open}
use Rattle.run_core.specs.Outside.{Shelved}
use Rattle.run_core.specs.Files.{IsUnread}
use Rattle.run_core.specs.Texts.{read_fault_text}
use Rattle.run_core.specs.declared.answer.Stop.{Stop}
use Rattle.run_core.specs.declared.answer.Stop.TheVariants as stops
use Rattle.run_core.specs.declared.status.ToolStatus.{ToolStatus}
use Rattle.run_core.specs.declared.status.ToolStatus.TheVariants as statuses
use Rattle.reports.specs.Lines.{AreNamed, value_lines, room_fault_text}
use Rattle.rooms_cmd.specs.Answers.{answer_text, optimal_line, open_line, verified_line, verified_text, not_verified_text, long_certificate_text}
use Rattle.rooms_cmd.specs.Demonstrating.{counts_text}
use Rattle.rooms_cmd.specs.Reporting.{report_on}
use Rattle.rooms_cmd.specs.Checking.{certificate_limit, IsLongCertificate, SaysVerified, SaysNot, SaysShared}
use Rattle.rooms_cmd.specs.Work.{Work, begins}
use Rattle.rooms_cmd.specs.declared.putting.Draft.{Draft}

-- ---- putting a file

-- the file was not put; there is no text
abbrev pub NotPut : Shelved → List ℕ → ToolStatus → Type 0
NotPut s text status = (status ≡ statuses.WriteFault) × (text ≡ []) × Rose s.puts.before s.puts.now

-- the name holds the bytes, where the shelf tells it, and the answer is the one that was to be given
pub record IsPut (s : Shelved) (d : Draft) (name text : List ℕ) (status : ToolStatus) : Type 0 where
  pub put : IsTrue s.told.tells → s.holds name ≡ Some d.bytes.items
  pub text_is : text ≡ d.answer.text.items
  pub status_is : status ≡ d.answer.status

abbrev pub PutExplains : Shelved → Draft → List ℕ → List ℕ → ToolStatus → Type 0
PutExplains s d name text status = NotPut s text status ⊎ IsPut s d name text status

-- ---- `solve`

-- the bytes are the text of the certificate, and the answer is that of this first line and status
pub record IsDraft (i : Instance) (t : Times) (first : List ℕ) (status : ToolStatus) (c : Certificate) (d : Draft) : Type 0 where
  pub spelled : IsText d.bytes.items c
  pub text_is : d.answer.text.items ≡ answer_text first i t c
  pub status_is : d.answer.status ≡ status

abbrev pub IsDraftOf : Instance → Times → Solved → Draft → Type 0
IsDraftOf i t (Optimal c) d = IsDraft i t optimal_line statuses.Done c d
IsDraftOf i t (Open level c log) d = IsDraft i t (open_line level) statuses.Open c d

-- the certificate is inside the bounds of its text, and its meetings and rooms have names
pub record IsPrintable (i : Instance) (t : Times) (c : Certificate) : Type 0 where
  pub writable : is_writable c ≡ true
  pub named : AreNamed i t.meetings c.choice

abbrev pub ArePrintable : Instance → Times → Solved → Type 0
ArePrintable i t (Optimal c) = IsPrintable i t c
ArePrintable i t (Open level c log) = IsPrintable i t c

-- a draft of what the search found
pub record IsFound (p : Facts) (i : Instance) (t : Times) (budget : ℕ) (w : Work) (d : Draft) : Type 0 where
  pub solved : Solved
  pub solves : Solves p budget (begins w) w.wides.now w.steps.now solved
  pub draft : IsDraftOf i t solved d

-- what the search found was put
pub record IsPutFound (s : Shelved) (w : Work) (p : Facts) (i : Instance) (t : Times) (budget : ℕ) (name text : List ℕ) (status : ToolStatus) : Type 0 where
  pub draft : Draft
  pub found : IsFound p i t budget w draft
  pub is_put : IsPut s draft name text status

abbrev pub FoundExplains : Shelved → Work → Facts → Instance → Times → ℕ → List ℕ → List ℕ → ToolStatus → Type 0
FoundExplains s w p i t budget name text status = NotPut s text status ⊎ IsPutFound s w p i t budget name text status

-- ---- `check` and `recert`

-- what is answered of a certificate that is not read: that it was not read, or that it is too long; where memory runs
-- out, that
abbrev pub IsStopOfRefusal : List ℕ → ReadRefusal → Stop → Type 0
IsStopOfRefusal name refusals.Fault (stops.Answer a) = (a.status ≡ statuses.ReadFault) × (a.text.items ≡ read_fault_text name)
IsStopOfRefusal name refusals.Fault stops.NotPut = ⊥
IsStopOfRefusal name refusals.Fault stops.Memory = Unit {0}
IsStopOfRefusal name (refusals.TooLong taken) (stops.Answer a) = (a.status ≡ statuses.BadInput) × (a.text.items ≡ long_certificate_text name)
IsStopOfRefusal name (refusals.TooLong taken) stops.NotPut = ⊥
IsStopOfRefusal name (refusals.TooLong taken) stops.Memory = Unit {0}
IsStopOfRefusal name refusals.Memory stops.Memory = Unit {0}
IsStopOfRefusal name refusals.Memory stop = ⊥

-- the values of a verdict are small
abbrev pub HasSmallValues : Verdict → Type 0
HasSmallValues (Verified levels values) = AllByRecursion (IsWithin (pos 1000000000000)) values
HasSmallValues (Not line reason) = Unit {0}

-- the text and the status of a verdict
abbrev pub IsTold : Verdict → List ℕ → ToolStatus → Type 0
IsTold (Verified levels values) text statuses.Done = text ≡ verified_text levels values
IsTold (Not line reason) text statuses.No = text ≡ not_verified_text line reason
IsTold verdict text status = ⊥

-- of all bytes of the file something is said
pub record OfWhole (tells : Bool) (held : Option (List ℕ)) (says : List ℕ → Type 0) : Type 0 where
  pub bytes : List ℕ
  pub whole : IsWhole tells held certificate_limit bytes
  pub says_so : says bytes

-- the verdict on the file is told, or why it isn't read
abbrev pub FileExplains : Bool → Option (List ℕ) → ℕ → ℕ → Facts → List ℕ → List ℕ → ToolStatus → Type 0
FileExplains tells held before now p name text statuses.Done = OfWhole tells held (λ bytes. SaysVerified p bytes text)
FileExplains tells held before now p name text statuses.No = OfWhole tells held (λ bytes. SaysNot p bytes text)
FileExplains tells held before now p name text statuses.BadInput = IsLongCertificate tells held × (text ≡ long_certificate_text name)
FileExplains tells held before now p name text statuses.ReadFault = IsUnread tells held before now × (text ≡ read_fault_text name)
FileExplains tells held before now p name text status = ⊥

-- the bytes are not verified, or their shared form was put, or could not be put
abbrev pub BytesExplain : Shelved → Facts → List ℕ → List ℕ → List ℕ → ToolStatus → Type 0
BytesExplain s p bytes new text statuses.Done = SaysShared s new p bytes text
BytesExplain s p bytes new text statuses.No = SaysNot p bytes text
BytesExplain s p bytes new text statuses.WriteFault = (text ≡ []) × Rose s.puts.before s.puts.now
BytesExplain s p bytes new text status = ⊥

-- the bytes are the text of a certificate
pub record HasText (bytes : List ℕ) : Type 0 where
  pub certificate : Certificate
  pub text : IsText bytes certificate

-- the text of the shared form of each certificate that the bytes spell
abbrev pub IsSharedText : List ℕ → List ℕ → Type 0
IsSharedText bytes shared = (c : Certificate) → IsText bytes c → IsText shared (share (plain c))

pub record IsSharedDraft (bytes : List ℕ) (levels : ℕ) (values : List ℤ) (d : Draft) : Type 0 where
  pub shared : IsSharedText bytes d.bytes.items
  pub text_is : d.answer.text.items ≡ verified_text levels values
  pub status_is : d.answer.status ≡ statuses.Done

-- the same of the file, or why it isn't read
abbrev pub RecertFileExplains : Shelved → Facts → List ℕ → List ℕ → List ℕ → ToolStatus → Type 0
RecertFileExplains s p name new text statuses.Done = OfWhole s.told.tells (s.told.held name) (λ bytes. SaysShared s new p bytes text)
RecertFileExplains s p name new text statuses.WriteFault = (text ≡ []) × Rose s.puts.before s.puts.now
RecertFileExplains s p name new text status = FileExplains s.told.tells (s.told.held name) s.reads.before s.reads.now p name text status

-- ---- `measure`

-- the given rooms are legal
pub record AreLegalRooms (i : Instance) (t : Times) (m : Measures) (text : List ℕ) : Type 0 where
  pub legal : IsLegal (problem_of i t m) (given_rooms t)
  pub is : text ≡ value_lines (measures (problem_of i t m) (given_rooms t))

-- the given rooms aren't legal
pub record AreIllegalRooms (i : Instance) (t : Times) (m : Measures) (text : List ℕ) : Type 0 where
  pub illegal : IsLegal (problem_of i t m) (given_rooms t) → ⊥
  pub fault : RoomFault
  pub first : first_fault (problem_of i t m) (given_rooms t) ≡ Some fault
  pub is : text ≡ room_fault_text i t fault

abbrev pub RoomsExplain : Instance → Times → Measures → List ℕ → ToolStatus → Type 0
RoomsExplain i t m text statuses.Done = AreLegalRooms i t m text
RoomsExplain i t m text statuses.No = AreIllegalRooms i t m text
RoomsExplain i t m text status = ⊥

-- ---- `report`

-- the given rooms are legal, and the report on them is printed
pub record AreReportedRooms (json : Bool) (i : Instance) (t : Times) (m : Measures) (text : List ℕ) : Type 0 where
  pub legal : IsLegal (problem_of i t m) (given_rooms t)
  pub is : text ≡ report_on json i t m

abbrev pub ReportedRooms : Bool → Instance → Times → Measures → List ℕ → ToolStatus → Type 0
ReportedRooms json i t m text statuses.Done = AreReportedRooms json i t m text
ReportedRooms json i t m text statuses.No = AreIllegalRooms i t m text
ReportedRooms json i t m text status = ⊥

-- ---- `demo`

-- the certificate is inside the bounds of its text, and valid for its finished levels, which are so many
pub record IsVerifiable (p : Facts) (levels : ℕ) (c : Certificate) : Type 0 where
  pub finished : length c.levels ≡ levels
  pub writable : is_writable c ≡ true
  pub valid : IsValid p (length c.levels) c

abbrev pub AreVerifiable : Facts → Solved → Type 0
AreVerifiable p (Optimal c) = IsVerifiable p 6 c
AreVerifiable p (Open level c log) = IsVerifiable p (level - 1) c

-- the counts, the verified levels, the first line and the values of what was found
abbrev pub summary_text : ℕ → Instance → Times → Facts → ℕ → List ℕ → List ℤ → List ℕ
summary_text n i t p levels first values = counts_text n i t p ++ verified_line levels ++ first ++ value_lines values

abbrev pub IsSummary : ℕ → Instance → Times → Facts → Solved → List ℕ → ToolStatus → Type 0
IsSummary n i t p (Optimal c) text status = (status ≡ statuses.Done) × (text ≡ summary_text n i t p 6 optimal_line c.values)
IsSummary n i t p (Open level c log) text status = (status ≡ statuses.Open) × (text ≡ summary_text n i t p (level - 1) (open_line level) c.values)
