-- Which slots the meetings of each course take, as it is kept by course and slot.
use Rattle.std.specs.Prelude.{ℕ, Bool, ◌*◌, ◌==◌, ◌&&◌, List, length}
use Rattle.std.specs.List.{list_any}
use Rattle.problem_core.specs.Tables.{IsGrid}
use Rattle.ctt_reader.specs.declared.instance.Instance.{Instance}
use Rattle.timed_solution.specs.declared.times.Meeting.{Meeting}
use Rattle.measure_file.specs.declared.measures.Measures.{Measures}
use Rattle.room_model.specs.ProblemOf.{event_part}
use Rattle.room_model.specs.Long.{takes_slot}

-- the meeting is of the course, and takes the slot
abbrev pub has_slot : Instance → Measures → ℕ → ℕ → Meeting → Bool
has_slot i m c s x = (x.course == c) && takes_slot (event_part i.periods m x) s

-- by course and slot, whether one of the meetings of the course takes the slot
abbrev pub AreTaken : Instance → Measures → List Meeting → List Bool → Type 0
AreTaken i m meetings taken = IsGrid taken (length i.courses) (i.days * i.periods) (λ c s. list_any (has_slot i m c s) meetings)
