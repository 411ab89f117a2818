-- Small scores, computed.
use Rattle.std.specs.Prelude.{ℕ, ◌≡◌, [], ◌∷◌, codes, refl}
use Rattle.ctt_reader.specs.declared.instance.Instance.{Instance}
use Rattle.timed_solution.specs.declared.times.Meeting.{Meeting}
use Rattle.itc_score.specs.declared.counts.ScoreCounts.{ScoreCounts}
use Rattle.itc_score.specs.Score.{score_of}

abbrev line : ℕ → ℕ → ℕ → ℕ → Meeting
line c r d p = record { course = c; room = r; day = d; period = p }

-- two courses of one teacher, one room, two days of two periods
abbrev two_courses : Instance
two_courses = record {
  title = [];
  courses = record { name = codes "C1"; teacher = codes "T1"; lectures = 2; min_days = 1; students = 25 } ∷ record { name = codes "C2"; teacher = codes "T1"; lectures = 1; min_days = 1; students = 10 } ∷ [];
  rooms = record { name = codes "R1"; capacity = 20 } ∷ [];
  days = 2;
  periods = 2;
  curricula = [];
  constraints = [];
}

abbrev counts : ℕ → ℕ → ℕ → ℕ → ℕ → ℕ → ℕ → ℕ → ℕ → ScoreCounts
counts m u o x a c d k s = record { missing = m; unroomed = u; occupancy = o; conflicts = x; availability = a; capacity = c; days = d; compactness = k; stability = s }

both_in_one_slot : score_of two_courses (line 0 1 0 0 ∷ line 0 1 0 1 ∷ line 1 1 0 0 ∷ []) ≡ counts 0 0 1 1 0 10 0 0 0
both_in_one_slot = refl

nothing_held : score_of two_courses [] ≡ counts 3 0 0 0 0 0 10 0 0
nothing_held = refl

-- two courses of two teachers in two curricula, and two rooms
abbrev in_curricula : Instance
in_curricula = record {
  title = [];
  courses = record { name = codes "C1"; teacher = codes "T1"; lectures = 3; min_days = 3; students = 5 } ∷ record { name = codes "C2"; teacher = codes "T2"; lectures = 2; min_days = 1; students = 5 } ∷ [];
  rooms = record { name = codes "R1"; capacity = 20 } ∷ record { name = codes "R2"; capacity = 3 } ∷ [];
  days = 2;
  periods = 2;
  curricula = record { name = codes "q1"; members = 0 ∷ 1 ∷ 0 ∷ [] } ∷ record { name = codes "q2"; members = 1 ∷ 0 ∷ [] } ∷ [];
  constraints = (0, 1, 1) ∷ [];
}

-- The second lecture of C1 stands in the first period of the second day, and no lecture beside it; that of C2
-- without a room is in conflict with the first of C1, once.
apart_and_together : score_of in_curricula (line 0 1 0 1 ∷ line 0 2 1 0 ∷ line 1 0 0 1 ∷ []) ≡ counts 2 1 0 1 0 2 5 12 1
apart_and_together = refl

closed_slot : score_of in_curricula (line 0 1 1 0 ∷ line 0 1 1 1 ∷ line 1 1 1 1 ∷ line 1 2 0 0 ∷ []) ≡ counts 1 0 1 1 1 2 10 4 1
closed_slot = refl
