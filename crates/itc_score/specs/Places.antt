-- The places of a week: 50 a day, of which the first and the last are never taken.
use Rattle.std.specs.Prelude.{ℕ, Bool, false, ◌+◌, ◌*◌, ◌==◌, ◌&&◌, nat_lt, List, length, slice_index_or, if◌then◌else◌}
use Rattle.itc_score.specs.Sums.{sum_below, count_below}
use Rattle.ctt_reader.specs.declared.instance.Instance.{Instance}
use Rattle.itc_score.specs.Score.{are_related}
use Rattle.timed_solution.specs.declared.times.Meeting.{Meeting}

abbrev pub place : ℕ → ℕ → ℕ
place day period = day * 50 + period + 1

abbrev pub place_of : Meeting → ℕ
place_of line = place line.day line.period

-- known numbers, of so many courses and rooms
abbrev pub fits : ℕ → ℕ → Meeting → Bool
fits courses rooms line = nat_lt line.course courses && (nat_lt line.room (rooms + 1) && (nat_lt line.day 14 && nat_lt line.period 48))

abbrev pub is_at : ℕ → ℕ → Meeting → Bool
is_at c p line = (place_of line == p) && (line.course == c)

abbrev pub is_in : ℕ → ℕ → Meeting → Bool
is_in r p line = (line.room == r) && (place_of line == p)

-- how many of the courses that are in have a lecture at the place, by a table of courses and places
abbrev pub held_at : (ℕ → Bool) → List Bool → ℕ → ℕ → ℕ
held_at is_in held courses p = count_below (λ c. is_in c && slice_index_or held (c * 700 + p) false) courses

-- the lectures at the first n places after the first beside which there is none, where so many are at each place
abbrev pub alone_up_to : ℕ → (ℕ → ℕ) → ℕ
alone_up_to n count = sum_below (λ j. if (count j == 0) && (count (j + 2) == 0) then count (j + 1) else 0) n

-- the same in all places
unfoldable pub alone_among : (ℕ → ℕ) → ℕ
alone_among count = alone_up_to 698 count

-- a course, day and period within the bounds of a table
abbrev pub are_known : ℕ × ℕ × ℕ → Bool
are_known x = nat_lt x.1 14 && nat_lt x.2 48

-- ---- what the tables have a row and a column for

abbrev pub course_place : Meeting → ℕ × ℕ
course_place line = (line.course, place_of line)

abbrev pub place_course : Meeting → ℕ × ℕ
place_course line = (place_of line, line.course)

abbrev pub course_day : Meeting → ℕ × ℕ
course_day line = (line.course, line.day)

abbrev pub course_room : Meeting → ℕ × ℕ
course_room line = (line.course, line.room)

abbrev pub closed_place : ℕ × ℕ × ℕ → ℕ × ℕ
closed_place x = (x.0, place x.1 x.2)

-- the second number is that of a course that is related to the first
abbrev pub known_related : Instance → ℕ → ℕ → Bool
known_related i c d = nat_lt d (length i.courses) && are_related i c d
