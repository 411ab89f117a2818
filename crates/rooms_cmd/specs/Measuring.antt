-- What `measure` answers.
use Rattle.std.specs.Prelude.{ℕ, ◌≡◌, List, Some}
use Rattle.problem_core.specs.Choice.{IsLegal}
use Rattle.problem_core.specs.Measures.{measures}
use Rattle.problem_core.specs.Faults.{first_fault}
use Rattle.problem_core.specs.declared.choice.RoomFault.{RoomFault}
use Rattle.ctt_reader.specs.declared.instance.Instance.{Instance}
use Rattle.timed_solution.specs.declared.times.Times.{Times}
use Rattle.measure_file.specs.declared.measures.Measures.{Measures}
use Rattle.room_model.specs.ProblemOf.{problem_of, given_rooms}
use Rattle.run_core.specs.Outside.{Shelved, Told}
use Rattle.run_core.specs.declared.status.ToolStatus.{ToolStatus}
use Rattle.run_core.specs.declared.status.ToolStatus.TheVariants as statuses
use Rattle.reports.specs.Lines.{value_lines, room_fault_text}
use Rattle.tool_core.specs.Inputs.{AreGiven, HasProblem, AreRefused}
use Rattle.tool_core.specs.declared.inputs.Names.{Names}
use Rattle.rooms_cmd.specs.Unread.{IsUnreadInput}

-- the rooms given in the times are legal, and their six measures are printed
pub record IsMeasured (o : Told) (f : Names) (text : List ℕ) : Type 0 where
  pub i : Instance
  pub t : Times
  pub m : Measures
  pub given : AreGiven o f i t m
  pub problem : HasProblem i t m
  pub legal : IsLegal (problem_of i t m) (given_rooms t)
  pub is : text ≡ value_lines (measures (problem_of i t m) (given_rooms t))

-- the rooms given in the times aren't legal, and the first fault is printed
pub record IsIllegal (o : Told) (f : Names) (text : List ℕ) : Type 0 where
  pub i : Instance
  pub t : Times
  pub m : Measures
  pub given : AreGiven o f i t m
  pub problem : HasProblem i t m
  pub illegal : IsLegal (problem_of i t m) (given_rooms t) → ⊥
  pub fault : RoomFault
  pub first : first_fault (problem_of i t m) (given_rooms t) ≡ Some fault
  pub is : text ≡ room_fault_text i t fault

abbrev pub MeasureExplains : Shelved → Names → List ℕ → ToolStatus → Type 0
MeasureExplains s f text statuses.Done = IsMeasured s.told f text
MeasureExplains s f text statuses.No = IsIllegal s.told f text
MeasureExplains s f text statuses.BadInput = AreRefused s.told f text
MeasureExplains s f text statuses.ReadFault = IsUnreadInput s f text
MeasureExplains s f text status = ⊥
