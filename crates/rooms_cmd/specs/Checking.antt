-- What `check` and `recert` answer.
use Rattle.std.specs.Prelude.{ℕ, ℤ, ◌≡◌, ◌⊎◌, ◌<◌, List, length, Bool, Option, Some, IsTrue, IsSomeAnd}
use Rattle.input_core.specs.Reading.{IsWhole}
use Rattle.problem_core.specs.Facts.{Facts}
use Rattle.ctt_reader.specs.declared.instance.Instance.{Instance}
use Rattle.timed_solution.specs.declared.times.Times.{Times}
use Rattle.measure_file.specs.declared.measures.Measures.{Measures}
use Rattle.room_model.specs.ProblemOf.{problem_of}
use Rattle.cert_text.specs.Text.{IsText, certificate_of}
use Rattle.cert_text.specs.Sharing.{share, plain}
use Rattle.cert_checker.specs.declared.verdict.Reason.{Reason}
use Rattle.cert_checker.specs.declared.verdict.Verdict.TheVariants.{Verified, Not}
use Rattle.cert_checker.specs.Verdicts.{verdict_of, IsProof, IsNoProof, IsValid}
use Rattle.run_core.specs.Outside.{Shelved, Told}
use Rattle.run_core.specs.Files.{IsUnread}
use Rattle.run_core.specs.Texts.{read_fault_text}
use Rattle.run_core.specs.declared.status.ToolStatus.{ToolStatus}
use Rattle.run_core.specs.declared.status.ToolStatus.TheVariants as statuses
use Rattle.tool_core.specs.Inputs.{AreGiven, HasModel, AreRefusedForModel}
use Rattle.tool_core.specs.declared.inputs.Names.{Names}
use Rattle.rooms_cmd.specs.Answers.{verified_text, not_verified_text, long_certificate_text}
use Rattle.rooms_cmd.specs.Unread.{IsUnreadInput}
use Rattle.rooms_cmd.specs.Solving.{IsNotPut}

-- the most bytes of a certificate
abbrev pub certificate_limit : ℕ
certificate_limit = 9223372036854775807

-- ---- the verdict

-- the bytes are the text of a valid certificate, whose choice is best in its levels
pub record SaysVerified (p : Facts) (bytes text : List ℕ) : Type 0 where
  pub levels : ℕ
  pub values : List ℤ
  pub verdict : verdict_of p (certificate_of bytes) ≡ Verified levels values
  pub proof : IsProof p bytes levels values
  pub is : text ≡ verified_text levels values

-- the bytes are no text, or no certificate that they spell is valid
pub record SaysNot (p : Facts) (bytes text : List ℕ) : Type 0 where
  pub line : ℕ
  pub reason : Reason
  pub verdict : verdict_of p (certificate_of bytes) ≡ Not line reason
  pub no_proof : IsNoProof p bytes
  pub is : text ≡ not_verified_text line reason

-- the three files are accepted, and of the whole certificate something is said
pub record IsJudged (o : Told) (f : Names) (name text : List ℕ) (says : Facts → List ℕ → List ℕ → Type 0) : Type 0 where
  pub i : Instance
  pub t : Times
  pub m : Measures
  pub given : AreGiven o f i t m
  pub model : HasModel i t m
  pub bytes : List ℕ
  pub whole : IsWhole o.tells (o.held name) certificate_limit bytes
  pub says_so : says (problem_of i t m) bytes text

-- ---- why the certificate stops the command

abbrev pub IsLongCertificate : Bool → Option (List ℕ) → Type 0
IsLongCertificate tells held = IsTrue tells → IsSomeAnd held (λ bytes. certificate_limit < length bytes)

-- the three files are accepted, and the certificate has too many bytes
pub record IsTooLong (o : Told) (f : Names) (name text : List ℕ) : Type 0 where
  pub i : Instance
  pub t : Times
  pub m : Measures
  pub given : AreGiven o f i t m
  pub model : HasModel i t m
  pub long : IsLongCertificate o.tells (o.held name)
  pub is : text ≡ long_certificate_text name

-- the three files are accepted, and the certificate isn't read
pub record IsUnreadCertificate (s : Shelved) (f : Names) (name text : List ℕ) : Type 0 where
  pub i : Instance
  pub t : Times
  pub m : Measures
  pub given : AreGiven s.told f i t m
  pub model : HasModel i t m
  pub unread : IsUnread s.told.tells (s.told.held name) s.reads.before s.reads.now
  pub is : text ≡ read_fault_text name

abbrev pub IsRefusedWith : Told → Names → List ℕ → List ℕ → Type 0
IsRefusedWith o f name text = AreRefusedForModel o f text ⊎ IsTooLong o f name text

abbrev pub IsUnreadWith : Shelved → Names → List ℕ → List ℕ → Type 0
IsUnreadWith s f name text = IsUnreadInput s f text ⊎ IsUnreadCertificate s f name text

abbrev pub CheckExplains : Shelved → Names → List ℕ → List ℕ → ToolStatus → Type 0
CheckExplains s f name text statuses.Done = IsJudged s.told f name text SaysVerified
CheckExplains s f name text statuses.No = IsJudged s.told f name text SaysNot
CheckExplains s f name text statuses.BadInput = IsRefusedWith s.told f name text
CheckExplains s f name text statuses.ReadFault = IsUnreadWith s f name text
CheckExplains s f name text status = ⊥

-- ---- `recert`

-- the bytes are the text of a valid certificate; the new name holds the text of its shared form, which is valid too
pub record SaysShared (s : Shelved) (new : List ℕ) (p : Facts) (bytes text : List ℕ) : Type 0 where
  pub verified : SaysVerified p bytes text
  pub shared_bytes : List ℕ
  pub shared : IsText shared_bytes (share (plain verified.proof.certificate))
  pub valid : IsValid p verified.levels (share (plain verified.proof.certificate))
  pub put : IsTrue s.told.tells → s.holds new ≡ Some shared_bytes

abbrev pub RecertExplains : Shelved → Names → List ℕ → List ℕ → List ℕ → ToolStatus → Type 0
RecertExplains s f name new text statuses.Done = IsJudged s.told f name text (SaysShared s new)
RecertExplains s f name new text statuses.WriteFault = IsNotPut s f text
RecertExplains s f name new text status = CheckExplains s f name text status
