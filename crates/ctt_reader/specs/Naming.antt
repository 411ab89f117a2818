-- The names of courses and rooms, by their numbers.
use Rattle.std.specs.Prelude.{ℕ, ◌-◌, ◌==◌, List, [], codes, slice_index_or, if◌then◌else◌}
use Rattle.ctt_reader.specs.declared.instance.Instance.{Instance}
use Rattle.ctt_reader.specs.declared.instance.Course.{Course}
use Rattle.ctt_reader.specs.declared.instance.Room.{Room}

abbrev pub no_course : Course
no_course = record { name = []; teacher = []; lectures = 0; min_days = 0; students = 0 }

abbrev pub no_room : Room
no_room = record { name = []; capacity = 0 }

abbrev pub course_name : Instance → ℕ → List ℕ
course_name i course = (slice_index_or i.courses course no_course).name

-- `-` for no room
abbrev pub room_name : Instance → ℕ → List ℕ
room_name i entry = if entry == 0 then codes "-" else (slice_index_or i.rooms (entry - 1) no_room).name
