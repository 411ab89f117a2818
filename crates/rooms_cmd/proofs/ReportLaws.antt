-- From the answers of the steps to the answer of `report`.
use Rattle.std.proofs.Common.{ℕ, ◌≡◌, ◌∙◌, ap, ap₂, sym, List, Bool, true, false}
use Rattle.problem_core.specs.Facts.{Facts}
use Rattle.room_model.specs.ProblemOf.{problem_of, given_rooms}
use Rattle.reports.specs.Json.{json_line}
use Rattle.reports.specs.Report.{report_text}
use Rattle.ctt_reader.specs.declared.instance.Instance.{Instance}
use Rattle.timed_solution.specs.declared.times.Times.{Times}
use Rattle.measure_file.specs.declared.measures.Measures.{Measures}
use Rattle.run_core.specs.Outside.{Shelved}
use Rattle.run_core.specs.declared.status.ToolStatus.{ToolStatus}
use Rattle.run_core.specs.declared.status.ToolStatus.TheVariants.{Done, No, Usage, Open, BadInput, ReadFault, WriteFault, Memory}
use Rattle.tool_core.specs.Inputs.{AreGiven, HasProblem}
use Rattle.tool_core.specs.declared.inputs.Names.{Names}
use Rattle.rooms_cmd.specs.Reporting.{ReportExplains, report_on}
use Rattle.rooms_cmd.specs.Steps.{ReportedRooms}

-- the given rooms answer
pub report_answer : (s : Shelved) (f : Names) (json : Bool) (i : Instance) (t : Times) (m : Measures) (text : List ℕ) (status : ToolStatus) → AreGiven s.told f i t m → HasProblem i t m → ReportedRooms json i t m text status
    → ReportExplains s f json text status
report_answer s f json i t m text Done given p h = record { i = i; t = t; m = m; given = given; problem = p; legal = h.legal; is = h.is }
report_answer s f json i t m text No given p h = record { i = i; t = t; m = m; given = given; problem = p; illegal = h.illegal; fault = h.fault; first = h.first; is = h.is }
report_answer s f json i t m text Usage given p h = absurd h
report_answer s f json i t m text Open given p h = absurd h
report_answer s f json i t m text BadInput given p h = absurd h
report_answer s f json i t m text ReadFault given p h = absurd h
report_answer s f json i t m text WriteFault given p h = absurd h
report_answer s f json i t m text Memory given p h = absurd h

-- which of the two reports is asked for
pub json_is : (json : Bool) (i : Instance) (t : Times) (m : Measures) (p : Facts) (a : List ℕ) → json ≡ true → p ≡ problem_of i t m → a ≡ given_rooms t → json_line i t p a ≡ report_on json i t m
json_is json i t m p a is same given = ap₂ (json_line i t) same given ∙ sym (ap (λ b. report_on b i t m) is)

pub text_is : (json : Bool) (i : Instance) (t : Times) (m : Measures) (p : Facts) (a : List ℕ) → json ≡ false → p ≡ problem_of i t m → a ≡ given_rooms t → report_text i t p a ≡ report_on json i t m
text_is json i t m p a is same given = ap₂ (report_text i t) same given ∙ sym (ap (λ b. report_on b i t m) is)
