-- Small timed solutions, computed.
use Rattle.std.specs.Prelude.{ℕ, ◌≡◌, [], ◌∷◌, Ok, Err, codes, refl}
use Rattle.input_core.specs.declared.faults.LineKind.TheVariants.{UnknownRoom, RepeatedMeeting, TooMany}
use Rattle.ctt_reader.specs.declared.instance.Instance.{Instance}
use Rattle.timed_solution.specs.Times.{times_of}

-- one course with so many lectures, one room, one day of two periods
abbrev with_lectures : ℕ → Instance
with_lectures n = record {
  title = [];
  courses = record { name = codes "C1"; teacher = codes "T1"; lectures = n; min_days = 1; students = 10 } ∷ [];
  rooms = record { name = codes "R1"; capacity = 20 } ∷ [];
  days = 1;
  periods = 2;
  curricula = [];
  constraints = [];
}

both_forms : times_of (with_lectures 2) (codes "C1\tR1 0 1\r\n\nC1 0 0") ≡ Ok (record { course = 0; room = 1; day = 0; period = 1 } ∷ record { course = 0; room = 0; day = 0; period = 0 } ∷ [])
both_forms = refl

twice : times_of (with_lectures 2) (codes "C1 R1 0 0\nC1 R1 0 0\n") ≡ Err (record { line = 2; kind = RepeatedMeeting })
twice = refl

one_lecture : times_of (with_lectures 1) (codes "C1 0 0\nC1 0 1\n") ≡ Err (record { line = 2; kind = TooMany 1 })
one_lecture = refl

unknown_room : times_of (with_lectures 1) (codes "C1 R9 0 0") ≡ Err (record { line = 1; kind = UnknownRoom })
unknown_room = refl
