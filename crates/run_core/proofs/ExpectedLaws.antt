-- What a run in which no call fails answers of a file, and of its whole.
use Rattle.std.proofs.Common.{ℕ, ◌≡◌, inl, inr, refl, sym, ◌∙◌, ap, subst, List, [], length, Bool}
use Rattle.std.specs.Prelude.{Option, Some, None, Result, Ok, Err, IsTrue}
use Rattle.std.proofs.lemmas.Bool.{le-ltb, lt-ltb}
use Rattle.input_core.specs.Causes.{Rose}
use Rattle.input_core.specs.Reading.{IsWhole}
use Rattle.input_core.specs.declared.faults.LineFault.{LineFault}
use Rattle.run_core.specs.Texts.{read_fault_text, too_long_text}
use Rattle.run_core.specs.Files.{limit, IsUnread, IsLong, IsRefused}
use Rattle.run_core.specs.Outside.{Shelved, Printed, IsQuiet}
use Rattle.run_core.specs.Ends.{Prints, Grew, RunEnds}
use Rattle.run_core.specs.Expected.{Expected, of_file, of_text, IsSaid, AnswersAs, AnswersExpected}
use Rattle.run_core.specs.Expected.Expected.{Says, Finds}
use Rattle.run_core.specs.declared.status.ToolStatus.{ToolStatus}
use Rattle.run_core.specs.declared.status.ToolStatus.TheVariants.{Done, No, Usage, Open, BadInput, ReadFault, WriteFault, Memory}

-- ---- a file

pub of_whole : (tells : Bool) (held : Option (List ℕ)) (name bytes : List ℕ) (next : List ℕ → Expected) → IsTrue tells → IsWhole tells held limit bytes → of_file name held next ≡ next bytes
of_whole tells held name bytes next told whole =
    ap (λ h. of_file name h next) (whole.whole told) ∙ rw (le-ltb limit (length bytes) whole.short) refl

pub of_long_file : (tells : Bool) (held : Option (List ℕ)) (name : List ℕ) (next : List ℕ → Expected) → IsTrue tells → IsLong tells held → of_file name held next ≡ Says BadInput (too_long_text name)
of_long_file tells None name next told long = absurd (long told)
of_long_file tells (Some bytes) name next told long = rw (lt-ltb limit (length bytes) (long told)) refl

pub of_unread : (tells : Bool) (held : Option (List ℕ)) (name : List ℕ) (next : List ℕ → Expected) (before now : ℕ) → (Rose before now → ⊥) → IsUnread tells held before now → of_file name held next ≡ Says ReadFault (read_fault_text name)
of_unread tells held name next before now quiet (inl rose) = absurd (quiet rose)
of_unread tells held name next before now quiet (inr unknown) = ap (λ h. of_file name h next) unknown.1

-- a file that gives a value
pub of_value : {X : Type 0} (tells : Bool) (held : Option (List ℕ)) (name bytes : List ℕ) (value_of : List ℕ → Result X LineFault) (x : X) (next : X → Expected)
    → IsTrue tells → IsWhole tells held limit bytes → value_of bytes ≡ Ok x → of_file name held (λ found. of_text name (value_of found) next) ≡ next x
of_value tells held name bytes value_of x next told whole is =
    of_whole tells held name bytes (λ found. of_text name (value_of found) next) told whole ∙ ap (λ r. of_text name r next) is

-- the bytes of a file have a first fault
pub record HasFault {X : Type 0} (tells : Bool) (held : Option (List ℕ)) (value_of : List ℕ → Result X LineFault) (fault : LineFault) : Type 0 where
  pub bytes : List ℕ
  pub whole : IsWhole tells held limit bytes
  pub refused : value_of bytes ≡ Err fault

-- a file that is refused
pub of_refused : {X : Type 0} (tells : Bool) (held : Option (List ℕ)) (name text : List ℕ) (value_of : List ℕ → Result X LineFault) (faulty : LineFault → Type 0) (next : X → Expected)
    → IsTrue tells → ((fault : LineFault) → faulty fault → HasFault tells held value_of fault) → IsRefused tells held faulty name text
    → of_file name held (λ found. of_text name (value_of found) next) ≡ Says BadInput text
of_refused tells held name text value_of faulty next told known (inl long) =
    of_long_file tells held name (λ found. of_text name (value_of found) next) told long.0 ∙ ap (Says BadInput) (sym long.1)
of_refused tells held name text value_of faulty next told known (inr found) =
    let f = known found.0 found.1 in
    of_whole tells held name f.bytes (λ found. of_text name (value_of found) next) told f.whole ∙ ap (λ r. of_text name r next) f.refused ∙ ap (Says BadInput) (sym found.2)

-- ---- a run

-- the expected text and status are said
pub said : (text : List ℕ) (status : ToolStatus) (expected : Expected) → expected ≡ Says status text → IsSaid text status expected
said text status expected e = subst (IsSaid text status) (sym e) (refl, refl)

pub said_answers : (p : Printed) (text : List ℕ) (status : ToolStatus) (expected : Expected) → IsSaid text status expected → Grew p.old p.new text → AnswersAs p status expected
said_answers p text status (Says wanted words) h grew = (h.0, subst (Grew p.old p.new) h.1 grew)
said_answers p text status Finds h grew = h

printed_expected : (p : Printed) (explain : List ℕ → ToolStatus → Type 0) (expected : Expected) (status : ToolStatus)
    → ((text : List ℕ) (status : ToolStatus) → explain text status → IsSaid text status expected) → Prints p (λ text. explain text status)
    → AnswersExpected p status expected
printed_expected p explain expected status known h = inr (said_answers p h.text status expected (known h.text status h.why) h.grew)

-- where no call fails and each explained answer is the expected one, the run answers as expected
pub quiet_run : (s : Shelved) (p : Printed) (explain : List ℕ → ToolStatus → Type 0) (expected : Expected) (status : ToolStatus)
    → ((text : List ℕ) (status : ToolStatus) → explain text status → IsSaid text status expected) → RunEnds p explain status → IsQuiet s p
    → AnswersExpected p status expected
quiet_run s p explain expected Done known h q = printed_expected p explain expected Done known h
quiet_run s p explain expected No known h q = printed_expected p explain expected No known h
quiet_run s p explain expected Usage known h q = printed_expected p explain expected Usage known h
quiet_run s p explain expected Open known h q = printed_expected p explain expected Open known h
quiet_run s p explain expected BadInput known h q = printed_expected p explain expected BadInput known h
quiet_run s p explain expected ReadFault known h q = printed_expected p explain expected ReadFault known h
quiet_run s p explain expected WriteFault known (inl h) q = absurd (q.writes h.rose)
quiet_run s p explain expected WriteFault known (inr h) q = inr (said_answers p [] WriteFault expected (known [] WriteFault h.0) h.1)
quiet_run s p explain expected Memory known h q = inl refl
