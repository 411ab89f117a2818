-- The exit status of the program.
use Rattle.std.specs.Prelude.{ℕ, ◌≡◌, List}
use Rattle.run_core.specs.Numbers.{number_of}
use Rattle.run_core.specs.Outside.{Shelved, Printed}
use Rattle.run_core.specs.Ends.{RunEnds}
use Rattle.run_core.specs.Calls.{NoReadFailed, NoWriteFailed, WritesOnce}
use Rattle.run_core.specs.declared.status.ToolStatus.{ToolStatus}
use Rattle.week_page.specs.Run.{Explains}

-- the number is that of a status with which a run of the words ends so
pub record IsExit (s : Shelved) (p : Printed) (words : List (List ℕ)) (number : ℕ) : Type 0 where
  pub status : ToolStatus
  pub is : number ≡ number_of status
  pub ends : RunEnds p (Explains s words) status
  pub reads : NoReadFailed s.reads.before s.reads.now status
  pub writes : NoWriteFailed p.faults.before p.faults.now status
  pub once : WritesOnce p.calls.before p.calls.now status
