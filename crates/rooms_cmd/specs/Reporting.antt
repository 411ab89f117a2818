-- What `report` answers.
use Rattle.std.specs.Prelude.{ℕ, ◌≡◌, List, Bool, if◌then◌else◌}
use Rattle.problem_core.specs.Choice.{IsLegal}
use Rattle.ctt_reader.specs.declared.instance.Instance.{Instance}
use Rattle.timed_solution.specs.declared.times.Times.{Times}
use Rattle.measure_file.specs.declared.measures.Measures.{Measures}
use Rattle.room_model.specs.ProblemOf.{problem_of, given_rooms}
use Rattle.run_core.specs.Outside.{Shelved, Told}
use Rattle.run_core.specs.declared.status.ToolStatus.{ToolStatus}
use Rattle.run_core.specs.declared.status.ToolStatus.TheVariants as statuses
use Rattle.reports.specs.Json.{json_line}
use Rattle.reports.specs.Report.{report_text}
use Rattle.tool_core.specs.Inputs.{AreGiven, HasProblem, AreRefused}
use Rattle.tool_core.specs.declared.inputs.Names.{Names}
use Rattle.rooms_cmd.specs.Measuring.{IsIllegal}
use Rattle.rooms_cmd.specs.Unread.{IsUnreadInput}

-- the report on the rooms given in the times: as a line of JSON, or as a text
abbrev pub report_on : Bool → Instance → Times → Measures → List ℕ
report_on json i t m = if json then json_line i t (problem_of i t m) (given_rooms t) else report_text i t (problem_of i t m) (given_rooms t)

-- the rooms given in the times are legal, and the report on them is printed
pub record IsReported (o : Told) (f : Names) (json : Bool) (text : List ℕ) : Type 0 where
  pub i : Instance
  pub t : Times
  pub m : Measures
  pub given : AreGiven o f i t m
  pub problem : HasProblem i t m
  pub legal : IsLegal (problem_of i t m) (given_rooms t)
  pub is : text ≡ report_on json i t m

abbrev pub ReportExplains : Shelved → Names → Bool → List ℕ → ToolStatus → Type 0
ReportExplains s f json text statuses.Done = IsReported s.told f json text
ReportExplains s f json text statuses.No = IsIllegal s.told f text
ReportExplains s f json text statuses.BadInput = AreRefused s.told f text
ReportExplains s f json text statuses.ReadFault = IsUnreadInput s f text
ReportExplains s f json text status = ⊥
