-- What is known of the sizes of the input that is made from its number of courses.
use Rattle.std.specs.Prelude.{ℕ, ◌≤◌, ◌*◌, length}
use Rattle.problem_core.specs.Courses.{meetings_of}
use Rattle.room_model.specs.ProblemOf.{problem_of}
use Rattle.tool_core.specs.Inputs.{HasModel}
use Rattle.demo_files.specs.Generator.{instance_of, times_of, measures_of}

-- with 1 to 300 courses there are at most 600 meetings, at most 3 of a course, and no limit is passed
pub record IsSmall (n : ℕ) : Type 0 where
  pub few_meetings : length (times_of n).meetings ≤ 2 * n
  pub few_of_a_course : (course : ℕ) → meetings_of (problem_of (instance_of n) (times_of n) (measures_of n)) course ≤ 3
  pub model : HasModel (instance_of n) (times_of n) (measures_of n)
