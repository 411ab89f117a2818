-- What holds of the parts of every problem, as facts.
use Rattle.std.specs.Prelude.{ℕ, ℤ, pos, ◌≡◌, ◌-ℤ◌, ◌≤ℤ◌, ◌+◌, ◌<◌, ◌≤◌, ◌⊎◌, length}
use Rattle.std.specs.List.{All, AllPairs, AllByRecursion}
use Rattle.problem_core.specs.OfParts.{facts_of}
use Rattle.problem_core.specs.Courses.{meetings_of}
use Rattle.problem_core.specs.declared.parts.Parts.{Parts}
use Rattle.problem_core.specs.declared.parts.EventPart.{EventPart}

-- a whole number at most so far from 0
pub record IsWithin (bound : ℤ) (z : ℤ) : Type 0 where
  pub low : (pos 0 -ℤ bound) ≤ℤ z
  pub high : z ≤ℤ bound

pub record EventFits (courses slots : ℕ) (e : EventPart) : Type 0 where
  pub known : e.course < courses
  pub some : 1 ≤ e.length
  pub short : e.length ≤ 48
  pub within : e.slot + e.length ≤ slots

abbrev pub AreApart : EventPart → EventPart → Type 0
AreApart e f = e.course ≡ f.course → (e.length ≡ f.length) × ((e.slot + e.length ≤ f.slot) ⊎ (f.slot + f.length ≤ e.slot))

pub record AreFit (p : Parts) : Type 0 where
  pub needs : length p.needs ≡ length p.students
  pub features : length p.features ≡ length p.capacity
  pub few_courses : length p.students ≤ 1000
  pub few_rooms : length p.capacity ≤ 200
  pub few_slots : p.slots ≤ 672
  pub few_rows : length p.robust ≤ 100
  pub students : All (λ n. n ≤ 1000000) p.students
  pub capacity : All (λ n. n ≤ 1000000) p.capacity
  pub events : All (EventFits (length p.students) p.slots) p.events
  pub apart : AllPairs AreApart p.events
  pub denied : All (λ x. (x.0 < length p.students) × (x.1 < length p.capacity)) p.denied
  pub closed : All (λ x. (x.0 < length p.capacity) × (x.1 < p.slots)) p.closed
  pub prefer : All (λ x. (x.0 < length p.students) × (x.1 < length p.capacity)) p.prefer
  pub points : All (λ x. IsWithin (pos 1000000) x.2) p.prefer
  pub rows : AllByRecursion (λ x. IsWithin (pos 1000000) x.1) p.robust

-- and the two limits on meetings
pub record AreKept (p : Parts) : Type 0 where
  pub fit : AreFit p
  pub few_events : length p.events ≤ 4000
  pub few_of_course : (c : ℕ) → c < length p.students → meetings_of (facts_of p) c ≤ 12
