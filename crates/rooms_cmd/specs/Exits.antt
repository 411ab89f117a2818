-- The exit status of the program.
use Rattle.std.specs.Prelude.{ℕ, ◌≡◌, Option}
use Rattle.run_core.specs.Numbers.{number_of}
use Rattle.run_core.specs.Outside.{Shelved, Printed}
use Rattle.run_core.specs.Calls.{NoReadFailed, NoWriteFailed}
use Rattle.run_core.specs.Ends.{RunEnds}
use Rattle.run_core.specs.declared.status.ToolStatus.{ToolStatus}
use Rattle.command_words.specs.declared.words.Command.{Command}
use Rattle.rooms_cmd.specs.Work.{Work}
use Rattle.rooms_cmd.specs.Run.{Explains, Keeps, KeepsInputs, WritesOnce}

-- the number is that of a status with which a run of the command ends so
pub record IsExit (s : Shelved) (p : Printed) (w : Work) (command : Option Command) (number : ℕ) : Type 0 where
  pub status : ToolStatus
  pub is : number ≡ number_of status
  pub ends : RunEnds p (Explains s w command) status
  pub kept : Keeps s command
  pub inputs : KeepsInputs s command
  pub reads : NoReadFailed s.reads.before s.reads.now status
  pub writes : NoWriteFailed p.faults.before p.faults.now status
  pub once : WritesOnce p.calls.before p.calls.now status
