-- The lengths of meetings, by course, as they are kept in a table.
use Rattle.std.specs.Prelude.{ℕ, ◌≡◌, ◌<◌, List, length, slice_index_or}
use Rattle.ctt_reader.specs.declared.instance.Instance.{Instance}
use Rattle.ctt_reader.specs.Promised.{IsInstance}
use Rattle.measure_file.specs.declared.measures.Measures.{Measures}
use Rattle.measure_file.specs.Promised.{AreMeasures}
use Rattle.room_model.specs.ProblemOf.{length_of}

pub record Planned : Type 0 where
  pub instance : Instance
  pub measures : Measures

pub record IsCalendar (i : Instance) (m : Measures) (lengths : List ℕ) : Type 0 where
  pub instance : IsInstance i
  pub measures : AreMeasures i m
  pub count : length lengths ≡ length i.courses
  pub each : (course : ℕ) (d : ℕ) → course < length lengths → slice_index_or lengths course d ≡ length_of m course
