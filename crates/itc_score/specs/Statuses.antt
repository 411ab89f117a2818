-- The statuses of the program among those of all programs.
use Rattle.run_core.specs.declared.status.ToolStatus.{ToolStatus}
use Rattle.run_core.specs.declared.status.ToolStatus.TheVariants as tools
use Rattle.itc_score.specs.declared.status.ScoreStatus.{ScoreStatus}
use Rattle.itc_score.specs.declared.status.ScoreStatus.TheVariants.{Done, Usage, BadInput, ReadFault, WriteFault, Memory}

abbrev pub tool_status : ScoreStatus → ToolStatus
tool_status Done = tools.Done
tool_status Usage = tools.Usage
tool_status BadInput = tools.BadInput
tool_status ReadFault = tools.ReadFault
tool_status WriteFault = tools.WriteFault
tool_status Memory = tools.Memory

-- a status that the program ends with
abbrev pub IsStatus : ToolStatus → Type 0
IsStatus tools.No = ⊥
IsStatus tools.Open = ⊥
IsStatus status = Unit {0}
