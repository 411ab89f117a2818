-- When the values of three files have a problem.
use Rattle.std.specs.Prelude.{ℕ, ◌≡◌, ◌+◌, ◌<◌, ◌≤◌, ◌↔◌, false, List, length, None, slice_index_or}
use Rattle.ctt_reader.specs.declared.instance.Instance.{Instance}
use Rattle.timed_solution.specs.declared.times.Times.{Times}
use Rattle.timed_solution.specs.declared.times.Meeting.{Meeting}
use Rattle.measure_file.specs.declared.measures.Measures.{Measures}
use Rattle.room_model.specs.ProblemOf.{length_of, event_part}
use Rattle.room_model.specs.Long.{share_slot, long_fault}

abbrev pub no_meeting : Meeting
no_meeting = record { course = 0; room = 0; day = 0; period = 0 }

abbrev pub meeting_at : List Meeting → ℕ → Meeting
meeting_at meetings e = slice_index_or meetings e no_meeting

-- every meeting ends by its day's last period, and no two of one course take a slot in common
pub record ProblemExists (i : Instance) (t : Times) (m : Measures) : Type 0 where
  pub within : (e : ℕ) → e < length t.meetings → (meeting_at t.meetings e).period + length_of m (meeting_at t.meetings e).course ≤ i.periods
  pub apart : (e f : ℕ) → e < f → f < length t.meetings → (meeting_at t.meetings e).course ≡ (meeting_at t.meetings f).course
      → share_slot (event_part i.periods m (meeting_at t.meetings f)) (event_part i.periods m (meeting_at t.meetings e)) ≡ false

-- no meeting is at fault exactly where there is a problem
abbrev pub NoneIsLong : Type 0
NoneIsLong = (i : Instance) (t : Times) (m : Measures) → long_fault i t m ≡ None ↔ ProblemExists i t m
