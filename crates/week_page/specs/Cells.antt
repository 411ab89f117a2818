-- Lines grouped by the cell of a day's table that they stand in, or by their course.
use Rattle.std.specs.Prelude.{ℕ, ◌≡◌, ◌+◌, ◌*◌, ◌==◌, ◌&&◌, Bool, nat_lt, List, [], length, slice_index_or}
use Rattle.std.specs.List.{filter, list_all}
use Rattle.ctt_reader.specs.declared.instance.Instance.{Instance}
use Rattle.timed_solution.specs.declared.times.Meeting.{Meeting}
use Rattle.week_page.specs.declared.groups.Grouping.{Grouping}
use Rattle.week_page.specs.declared.groups.Grouping.TheVariants.{ByCell, ByCourse}

-- the line is in this room, on this day and in this period; rooms are numbered from 0, and a line's entry is one more
abbrev pub is_in : ℕ → ℕ → ℕ → Meeting → Bool
is_in day room period line = (line.room == room + 1) && ((line.day == day) && (line.period == period))

-- what stands in a cell: the lines of that day, room and period, each once, in the order of the file
abbrev pub in_cell : List Meeting → ℕ → ℕ → ℕ → List Meeting
in_cell lines day room period = filter (is_in day room period) lines

-- the lines of a course, in the order of the file
abbrev pub of_course : List Meeting → ℕ → List Meeting
of_course lines course = filter (λ line. line.course == course) lines

-- the lines without a room, in the order of the file
abbrev pub without_room : List Meeting → List Meeting
without_room lines = filter (λ line. line.room == 0) lines

-- ---- groups

-- the place of a cell among those of all days, each with 201 entries of rooms and 48 periods
abbrev pub place : ℕ → ℕ → ℕ → ℕ
place day entry period = day * 9648 + entry * 48 + period

abbrev pub group_of : Grouping → Meeting → ℕ
group_of ByCell line = place line.day line.room line.period
group_of ByCourse line = line.course

-- each group has the lines of its number, in the order of the file
pub record AreGroups (by : Grouping) (lines : List Meeting) (groups : List (List Meeting)) : Type 0 where
  pub each : (g : ℕ) → slice_index_or groups g [] ≡ filter (λ line. group_of by line == g) lines

-- the lines of known courses
abbrev pub are_known : Instance → List Meeting → Bool
are_known i lines = list_all (λ line. nat_lt line.course (length i.courses) && nat_lt line.room (length i.rooms + 1)) lines

-- the groups read as cells of the tables, and as those of courses
abbrev pub cell_in : List (List Meeting) → ℕ → ℕ → ℕ → List Meeting
cell_in groups day room period = slice_index_or groups (place day (room + 1) period) []

abbrev pub group_in : List (List Meeting) → ℕ → List Meeting
group_in groups course = slice_index_or groups course []
