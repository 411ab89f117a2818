-- The exit status of the program.
use Rattle.std.specs.Prelude.{ℕ, ◌≡◌, List}
use Rattle.run_core.specs.Numbers.{number_of}
use Rattle.run_core.specs.Outside.{Shelved, Printed}
use Rattle.run_core.specs.Ends.{RunEnds}
use Rattle.run_core.specs.Calls.{NoReadFailed, NoWriteFailed, WritesOnce}
use Rattle.itc_score.specs.Run.{Explains}
use Rattle.itc_score.specs.Statuses.{tool_status}
use Rattle.itc_score.specs.declared.status.ScoreStatus.{ScoreStatus}

-- the number is that of a status with which a run of the words ends so
pub record IsExit (s : Shelved) (p : Printed) (words : List (List ℕ)) (number : ℕ) : Type 0 where
  pub status : ScoreStatus
  pub is : number ≡ number_of (tool_status status)
  pub ends : RunEnds p (Explains s words) (tool_status status)
  pub reads : NoReadFailed s.reads.before s.reads.now (tool_status status)
  pub writes : NoWriteFailed p.faults.before p.faults.now (tool_status status)
  pub once : WritesOnce p.calls.before p.calls.now (tool_status status)
