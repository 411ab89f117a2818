-- The facts that the parts state, and which parts are well formed.
use Rattle.std.specs.Prelude.{ℕ, ℤ, pos, negsuc, Bool, true, not, ◌&&◌, ◌||◌, ◌==◌, nat_le, nat_lt, int_lt, ◌+◌, ◌^◌, List, [], ◌∷◌, map, length}
use Rattle.std.specs.List.{list_all}
use Rattle.problem_core.specs.Facts.{Facts, Event, run_of}
use Rattle.problem_core.specs.declared.parts.Parts.{Parts}
use Rattle.problem_core.specs.declared.parts.EventPart.{EventPart}

abbrev pub event_of : EventPart → Event
event_of e = record { course = e.course; takes = run_of e.slot e.length }

abbrev pub facts_of : Parts → Facts
facts_of p = record {
  students = p.students;
  needs = p.needs;
  capacity = p.capacity;
  features = p.features;
  slots = p.slots;
  events = map event_of p.events;
  denied = p.denied;
  closed = p.closed;
  prefer = p.prefer;
  robust = p.robust;
}

-- every two elements, the earlier one first, pass the test
abbrev pub all_pairs : {X : Type 0} → (X → X → Bool) → List X → Bool
all_pairs test [] = true
all_pairs test (x ∷ xs) = list_all (test x) xs && all_pairs test xs

-- one entry a course and one a room, and no list with a limit is over it
abbrev pub lists_fit : Parts → Bool
lists_fit p =
    (length p.needs == length p.students) && (length p.features == length p.capacity)
    && nat_le (length p.students) 1000 && nat_le (length p.capacity) 200 && nat_le 1 p.slots && nat_le p.slots 672
    && nat_le (length p.robust) 100

-- students and capacities are at most a million, features are numbered below 100
abbrev pub is_million : ℕ → Bool
is_million n = nat_le n 1000000

abbrev pub is_features : ℕ → Bool
is_features set = nat_lt set (2 ^ 100)

abbrev pub numbers_fit : Parts → Bool
numbers_fit p =
    list_all is_million p.students && list_all is_features p.needs && list_all is_million p.capacity && list_all is_features p.features

-- the course is known, the length is 1 to 48, and the slots are there
abbrev pub event_fits : ℕ → ℕ → EventPart → Bool
event_fits courses slots e = nat_lt e.course courses && nat_le 1 e.length && nat_le e.length 48 && nat_le (e.slot + e.length) slots

-- no slot in common
abbrev pub are_apart : EventPart → EventPart → Bool
are_apart e f = nat_le (e.slot + e.length) f.slot || nat_le (f.slot + f.length) e.slot

-- events of one course are of one length and have no slot in common
abbrev pub events_agree : EventPart → EventPart → Bool
events_agree e f = not (e.course == f.course) || ((e.length == f.length) && are_apart e f)

abbrev pub events_fit : Parts → Bool
events_fit p = list_all (event_fits (length p.students) p.slots) p.events && all_pairs events_agree p.events

abbrev pub pair_fits : ℕ → ℕ → ℕ × ℕ → Bool
pair_fits m n x = nat_lt x.0 m && nat_lt x.1 n

-- points are at most a million in size
abbrev pub is_points : ℤ → Bool
is_points z = not (int_lt z (negsuc 999999)) && not (int_lt (pos 1000000) z)

abbrev pub preference_fits : ℕ → ℕ → ℕ × ℕ × ℤ → Bool
preference_fits courses rooms x = nat_lt x.0 courses && nat_lt x.1 rooms && is_points x.2

-- not for one course and room
abbrev pub preferences_differ : ℕ × ℕ × ℤ → ℕ × ℕ × ℤ → Bool
preferences_differ x y = not ((x.0 == y.0) && (x.1 == y.1))

abbrev pub row_fits : ℕ × ℤ → Bool
row_fits row = nat_le row.0 1000 && is_points row.1

abbrev pub rows_rise : ℕ × ℤ → ℕ × ℤ → Bool
rows_rise x y = nat_lt x.0 y.0

abbrev pub wishes_fit : Parts → Bool
wishes_fit p =
    list_all (pair_fits (length p.students) (length p.capacity)) p.denied
    && list_all (pair_fits (length p.capacity) p.slots) p.closed
    && list_all (preference_fits (length p.students) (length p.capacity)) p.prefer
    && all_pairs preferences_differ p.prefer
    && list_all row_fits p.robust
    && all_pairs rows_rise p.robust

abbrev pub well_formed : Parts → Bool
well_formed p = lists_fit p && numbers_fit p && events_fit p && wishes_fit p
