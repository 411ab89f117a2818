-- What every instance that a reader gives keeps to.
use Rattle.std.specs.Prelude.{ℕ, ◌≡◌, ◌≤◌, ◌&&◌, Bool, true, not, nat_lt, nat_le, List, [], ◌∷◌, length, bytes_eq, codes}
use Rattle.std.specs.List.{list_all}
use Rattle.input_core.specs.Lines.{is_field}
use Rattle.ctt_reader.specs.Names.{has_name}
use Rattle.ctt_reader.specs.Entries.{course_names, room_names}
use Rattle.ctt_reader.specs.declared.header.Sizes.{Sizes}
use Rattle.ctt_reader.specs.declared.instance.Course.{Course}
use Rattle.ctt_reader.specs.declared.instance.Room.{Room}
use Rattle.ctt_reader.specs.declared.instance.Curriculum.{Curriculum}
use Rattle.ctt_reader.specs.declared.instance.Instance.{Instance}

-- the limits of the header
pub record AreFew (sizes : Sizes) : Type 0 where
  pub courses : sizes.courses ≤ 1000
  pub rooms : sizes.rooms ≤ 200
  pub some_days : 1 ≤ sizes.days
  pub days : sizes.days ≤ 14
  pub some_periods : 1 ≤ sizes.periods
  pub periods : sizes.periods ≤ 48
  pub curricula : sizes.curricula ≤ 1000
  pub constraints : sizes.constraints ≤ 100000

-- 1 to 64 printable bytes, none of them blank
abbrev pub is_name : List ℕ → Bool
is_name name = is_field name && nat_le (length name) 64

abbrev pub are_different : List (List ℕ) → Bool
are_different [] = true
are_different (name ∷ names) = not (has_name name names) && are_different names

abbrev pub is_course : Course → Bool
is_course c = is_name c.name && is_name c.teacher && nat_le c.lectures 1000 && nat_le c.min_days 1000 && nat_le c.students 1000000

-- no room is named `-`, which stands for no room
abbrev pub is_room : Room → Bool
is_room r = is_name r.name && not (bytes_eq r.name (codes "-")) && nat_le r.capacity 1000000

-- numbers of courses, where there are so many
abbrev pub are_members : ℕ → List ℕ → Bool
are_members courses members = list_all (λ m. nat_lt m courses) members

-- of so many courses
abbrev pub is_curriculum : ℕ → Curriculum → Bool
is_curriculum courses c = is_name c.name && nat_le (length c.members) 100 && are_members courses c.members

abbrev pub is_constraint : ℕ → ℕ → ℕ → ℕ × ℕ × ℕ → Bool
is_constraint courses days periods c = nat_lt c.0 courses && nat_lt c.1 days && nat_lt c.2 periods

pub record IsInstance (i : Instance) : Type 0 where
  pub few_courses : length i.courses ≤ 1000
  pub few_rooms : length i.rooms ≤ 200
  pub some_days : 1 ≤ i.days
  pub few_days : i.days ≤ 14
  pub some_periods : 1 ≤ i.periods
  pub few_periods : i.periods ≤ 48
  pub few_curricula : length i.curricula ≤ 1000
  pub few_constraints : length i.constraints ≤ 100000
  pub title : list_all is_name i.title ≡ true
  pub courses : list_all is_course i.courses ≡ true
  pub course_names : are_different (course_names i.courses) ≡ true
  pub rooms : list_all is_room i.rooms ≡ true
  pub room_names : are_different (room_names i.rooms) ≡ true
  pub curricula : list_all (is_curriculum (length i.courses)) i.curricula ≡ true
  pub constraints : list_all (is_constraint (length i.courses) i.days i.periods) i.constraints ≡ true
