-- The exit statuses.
use Rattle.std.specs.Prelude.{ℕ}
use Rattle.run_core.specs.declared.status.ToolStatus.{ToolStatus}
use Rattle.run_core.specs.declared.status.ToolStatus.TheVariants.{Done, No, Usage, Open, BadInput, ReadFault, WriteFault, Memory}

abbrev pub number_of : ToolStatus → ℕ
number_of Done = 0
number_of No = 1
number_of Usage = 2
number_of Open = 3
number_of BadInput = 4
number_of ReadFault = 5
number_of WriteFault = 6
number_of Memory = 7
