-- What holds of every problem.
use Rattle.std.specs.Prelude.{ℕ, ◌≡◌, ◌+◌, ◌<◌, ◌≤◌, false, List, length}
use Rattle.problem_core.specs.Facts.{Facts, event_at, course_of, run_of, share_slot}
use Rattle.problem_core.specs.Courses.{meetings_of}

-- slots in a row, each below the end
pub record IsRun (end : ℕ) (slots : List ℕ) : Type 0 where
  pub first : ℕ
  pub count : ℕ
  pub are : slots ≡ run_of first count
  pub within : first + count ≤ end

pub record IsProblem (p : Facts) : Type 0 where
  pub few_courses : length p.students ≤ 1000
  pub few_rooms : length p.capacity ≤ 200
  pub few_slots : p.slots ≤ 672
  pub few_events : length p.events ≤ 4000
  pub few_of_course : (c : ℕ) → c < length p.students → meetings_of p c ≤ 12
  pub known : (e : ℕ) → e < length p.events → course_of p e < length p.students
  pub runs : (e : ℕ) → e < length p.events → IsRun p.slots (event_at p e).takes
  -- events of one course have no slot in common
  pub apart : (e f : ℕ) → e < f → f < length p.events → course_of p e ≡ course_of p f → share_slot p e f ≡ false
