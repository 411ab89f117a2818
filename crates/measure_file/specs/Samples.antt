-- Small measures files, computed.
use Rattle.std.specs.Prelude.{pos, negsuc, ◌≡◌, [], ◌∷◌, Ok, Err, codes, refl}
use Rattle.input_core.specs.declared.faults.LineKind.TheVariants.{Keyword, UnknownRoom, Repeated, Order, Version}
use Rattle.ctt_reader.specs.declared.instance.Instance.{Instance}
use Rattle.measure_file.specs.Grammar.{measures_of, no_measures}

-- one course, one room, one day of one period
abbrev one_slot : Instance
one_slot = record {
  title = [];
  courses = record { name = codes "C1"; teacher = codes "T1"; lectures = 1; min_days = 1; students = 10 } ∷ [];
  rooms = record { name = codes "R1"; capacity = 20 } ∷ [];
  days = 1;
  periods = 1;
  curricula = [];
  constraints = [];
}

nothing : measures_of one_slot (codes "\n\t\n") ≡ Ok no_measures
nothing = refl

two_lists : measures_of one_slot (codes "measures 1\nrobust 0 7\nclosed R1 0 0") ≡ Ok (record no_measures { closed = (0, 0, 0) ∷ []; robust = (0, pos 7) ∷ [] })
two_lists = refl

one_feature : measures_of one_slot (codes "measures 2\nneed C1 lab\nhas R1 lab\nlength C1 48\nprefer C1 R1 -2") ≡ Ok (record no_measures { features = codes "lab" ∷ []; has = (0, 0) ∷ []; needs = (0, 0) ∷ []; prefer = (0, 0, negsuc 1) ∷ []; lengths = (0, 48) ∷ [] })
one_feature = refl

third_version : measures_of one_slot (codes "measures 3") ≡ Err (record { line = 1; kind = Version })
third_version = refl

length_too_early : measures_of one_slot (codes "measures 1\nlength C1 1") ≡ Err (record { line = 2; kind = Keyword })
length_too_early = refl

no_room : measures_of one_slot (codes "measures 1\nhas - lab") ≡ Err (record { line = 2; kind = UnknownRoom })
no_room = refl

second_preference : measures_of one_slot (codes "measures 1\nprefer C1 R1 -0\n\nprefer C1 R1 0") ≡ Err (record { line = 4; kind = Repeated })
second_preference = refl

equal_thresholds : measures_of one_slot (codes "measures 1\nrobust 5 0\nrobust 5 1") ≡ Err (record { line = 3; kind = Order })
equal_thresholds = refl
