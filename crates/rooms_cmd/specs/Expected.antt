-- What a run in which no call fails answers, from the command and from what the names hold.
use Rattle.std.specs.Prelude.{ℕ, Bool, ◌≤◌, ◌*◌, ◌-◌, ◌^◌, List, length, Option, Some, None, nat_lt, if◌then◌else◌}
use Rattle.input_core.specs.Reading.{IsWhole}
use Rattle.problem_core.specs.Facts.{Facts}
use Rattle.problem_core.specs.Choice.{IsLegal}
use Rattle.problem_core.specs.Measures.{measures}
use Rattle.problem_core.specs.Faults.{first_fault}
use Rattle.problem_core.specs.declared.choice.RoomFault.{RoomFault}
use Rattle.ctt_reader.specs.declared.instance.Instance.{Instance}
use Rattle.timed_solution.specs.declared.times.Times.{Times}
use Rattle.measure_file.specs.declared.measures.Measures.{Measures}
use Rattle.room_model.specs.ProblemOf.{problem_of, given_rooms}
use Rattle.packing_model.specs.Built.{packing}
use Rattle.cert_text.specs.Text.{IsText, certificate_of}
use Rattle.cert_text.specs.declared.lines.Certificate.{Certificate}
use Rattle.cert_checker.specs.declared.verdict.Verdict.{Verdict}
use Rattle.cert_checker.specs.declared.verdict.Verdict.TheVariants.{Verified, Not}
use Rattle.cert_checker.specs.Verdicts.{IsValid, verdict_of}
use Rattle.run_core.specs.Outside.{Held, Told, Shelved}
use Rattle.run_core.specs.Texts.{read_fault_text}
use Rattle.run_core.specs.Expected.{Expected}
use Rattle.run_core.specs.Expected.Expected.{Says, Finds}
use Rattle.run_core.specs.declared.status.ToolStatus.TheVariants as statuses
use Rattle.reports.specs.Lines.{value_lines, room_fault_text}
use Rattle.tool_core.specs.Inputs.{AreGiven, HasProblem, HasModel}
use Rattle.tool_core.specs.Expected.{of_files, of_model}
use Rattle.tool_core.specs.declared.inputs.Names.{Names}
use Rattle.command_words.specs.declared.words.Command.{Command}
use Rattle.command_words.specs.declared.words.Command.TheVariants.{Solve, Check, Recert, Measure, Report, Demo}
use Rattle.rooms_cmd.specs.Answers.{usage_text, verified_text, not_verified_text, long_certificate_text}
use Rattle.rooms_cmd.specs.Checking.{certificate_limit}
use Rattle.rooms_cmd.specs.Demonstrating.{demo_problem}
use Rattle.rooms_cmd.specs.Reporting.{report_on}
use Rattle.rooms_cmd.specs.Solving.{HoldsCertificate}

-- the rooms given in the times, by their first fault
abbrev pub of_fault : Instance → Times → Measures → Option RoomFault → Expected
of_fault i t m None = Says statuses.Done (value_lines (measures (problem_of i t m) (given_rooms t)))
of_fault i t m (Some fault) = Says statuses.No (room_fault_text i t fault)

abbrev pub of_rooms : Instance → Times → Measures → Expected
of_rooms i t m = of_fault i t m (first_fault (problem_of i t m) (given_rooms t))

-- the same with the report on them
abbrev pub of_reported : Bool → Instance → Times → Measures → Option RoomFault → Expected
of_reported json i t m None = Says statuses.Done (report_on json i t m)
of_reported json i t m (Some fault) = Says statuses.No (room_fault_text i t fault)

abbrev pub of_report : Bool → Instance → Times → Measures → Expected
of_report json i t m = of_reported json i t m (first_fault (problem_of i t m) (given_rooms t))

abbrev pub of_verdict : Verdict → Expected
of_verdict (Verified levels values) = Says statuses.Done (verified_text levels values)
of_verdict (Not line reason) = Says statuses.No (not_verified_text line reason)

-- a certificate is judged where it is there and not too long
abbrev pub of_certificate : Facts → List ℕ → Option (List ℕ) → Expected
of_certificate p name None = Says statuses.ReadFault (read_fault_text name)
of_certificate p name (Some bytes) =
    if nat_lt certificate_limit (length bytes) then Says statuses.BadInput (long_certificate_text name) else of_verdict (verdict_of p (certificate_of bytes))

abbrev pub of_judged : Held → List ℕ → Instance → Times → Measures → Expected
of_judged held name i t m = of_certificate (problem_of i t m) name (held name)

-- what the search finds
abbrev pub of_search : Instance → Times → Measures → Expected
of_search i t m = Finds

abbrev pub expected : Held → Option Command → Expected
expected held None = Says statuses.Usage usage_text
expected held (Some (Solve f certificate budget)) = of_files (of_model of_search) held f
expected held (Some (Check f certificate)) = of_files (of_model (of_judged held certificate)) held f
expected held (Some (Recert f certificate new)) = of_files (of_model (of_judged held certificate)) held f
expected held (Some (Measure f)) = of_files of_rooms held f
expected held (Some (Report f json)) = of_files (of_report json) held f
expected held (Some (Demo courses budget)) = Finds

-- ---- inputs of which more is known

-- the three files give a problem whose model passes no limit
pub record IsAccepted (o : Told) (f : Names) : Type 0 where
  pub i : Instance
  pub t : Times
  pub m : Measures
  pub given : AreGiven o f i t m
  pub model : HasModel i t m

-- and with so many patterns, a budget that lets the search end
pub record IsAcceptedWith (o : Told) (f : Names) (budget : ℕ) : Type 0 where
  pub accepted : IsAccepted o f
  pub enough : 6 * (2 ^ (packing (problem_of accepted.i accepted.t accepted.m)).count - 1) ≤ budget

-- the three files give a problem, and the given rooms are legal
pub record IsLegalInput (o : Told) (f : Names) : Type 0 where
  pub i : Instance
  pub t : Times
  pub m : Measures
  pub given : AreGiven o f i t m
  pub problem : HasProblem i t m
  pub legal : IsLegal (problem_of i t m) (given_rooms t)

-- the three files give a problem, and the given rooms aren't legal
pub record IsIllegalInput (o : Told) (f : Names) : Type 0 where
  pub i : Instance
  pub t : Times
  pub m : Measures
  pub given : AreGiven o f i t m
  pub problem : HasProblem i t m
  pub illegal : IsLegal (problem_of i t m) (given_rooms t) → ⊥

-- the three files are accepted, and the certificate's file holds the text of one that is valid for its finished levels
pub record IsValidInput (o : Told) (f : Names) (name : List ℕ) : Type 0 where
  pub accepted : IsAccepted o f
  pub bytes : List ℕ
  pub whole : IsWhole o.tells (o.held name) certificate_limit bytes
  pub certificate : Certificate
  pub text : IsText bytes certificate
  pub valid : IsValid (problem_of accepted.i accepted.t accepted.m) (length certificate.levels) certificate

-- ---- what is owed to them

-- `solve` of an accepted input
abbrev pub Accepted : Told → Option Command → Type 0
Accepted o (Some (Solve f certificate budget)) = IsAccepted o f
Accepted o command = ⊥

-- `solve` of an accepted input with a budget that lets the search end
abbrev pub AcceptedWith : Told → Option Command → Type 0
AcceptedWith o (Some (Solve f certificate budget)) = IsAcceptedWith o f budget
AcceptedWith o command = ⊥

-- `check` or `recert` of a valid certificate
abbrev pub Valid : Told → Option Command → Type 0
Valid o (Some (Check f certificate)) = IsValidInput o f certificate
Valid o (Some (Recert f certificate new)) = IsValidInput o f certificate
Valid o command = ⊥

-- `measure` and `report` of legal rooms, and of others
abbrev pub Legal : Told → Option Command → Type 0
Legal o (Some (Measure f)) = IsLegalInput o f
Legal o (Some (Report f json)) = IsLegalInput o f
Legal o command = ⊥

abbrev pub Illegal : Told → Option Command → Type 0
Illegal o (Some (Measure f)) = IsIllegalInput o f
Illegal o (Some (Report f json)) = IsIllegalInput o f
Illegal o command = ⊥

-- `demo`, and with a budget that lets its search end
abbrev pub IsDemo : Option Command → Type 0
IsDemo (Some (Demo courses budget)) = Unit {0}
IsDemo command = ⊥

abbrev pub IsDemoWith : Option Command → Type 0
IsDemoWith (Some (Demo courses budget)) = 6 * (2 ^ (packing (demo_problem courses)).count - 1) ≤ budget
IsDemoWith command = ⊥

-- the file that `solve` writes holds the text of a certificate that is valid for its finished levels
pub record HoldsValid (s : Shelved) (p : Facts) (name : List ℕ) : Type 0 where
  pub certificate : Certificate
  pub held : HoldsCertificate s name certificate
  pub valid : IsValid p (length certificate.levels) certificate

-- where the input of `solve` is accepted, the certificate was put, and is of the input's problem
abbrev pub HoldsWhereAccepted : Shelved → Option Command → Type 0
HoldsWhereAccepted s (Some (Solve f certificate budget)) = (a : IsAccepted s.told f) → HoldsValid s (problem_of a.i a.t a.m) certificate
HoldsWhereAccepted s command = Unit {0}
