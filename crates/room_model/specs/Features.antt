-- What it means that a room has what a course needs, in the words of the measures file.
use Rattle.std.specs.Prelude.{ℕ, ◌≡◌, ◌<◌, ◌==◌, ◌||◌, Bool, not, length}
use Rattle.std.specs.List.{list_all, list_any}
use Rattle.problem_core.specs.Facts.{has_features, is_pair}
use Rattle.ctt_reader.specs.declared.instance.Instance.{Instance}
use Rattle.timed_solution.specs.declared.times.Times.{Times}
use Rattle.measure_file.specs.declared.measures.Measures.{Measures}
use Rattle.room_model.specs.ProblemOf.{problem_of}

-- each feature that is listed as needed by the course is listed as had by the room
abbrev pub has_needed : Measures → ℕ → ℕ → Bool
has_needed m course room = list_all (λ need. not (need.0 == course) || list_any (is_pair room need.1) m.has) m.needs

abbrev pub FeaturesAreListed : Type 0
FeaturesAreListed =
    (i : Instance) (t : Times) (m : Measures) (course room : ℕ) → course < length i.courses → room < length i.rooms → has_features (problem_of i t m) course room ≡ has_needed m course room
