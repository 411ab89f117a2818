-- The page: who is where.
use Rattle.std.specs.Prelude.{ℕ, ◌≡◌, ◌<◌, ◌-◌, ◌*◌, ◌%◌, ◌==◌, nat_lt, if◌then◌else◌, true, List, [], ◌++◌, length, codes, decimal, slice_index_or}
use Rattle.std.specs.List.{flat_map, list_any, position_or_len}
use Rattle.ctt_reader.specs.declared.instance.Instance.{Instance}
use Rattle.ctt_reader.specs.declared.instance.Course.{Course}
use Rattle.ctt_reader.specs.declared.instance.Room.{Room}
use Rattle.ctt_reader.specs.declared.instance.Curriculum.{Curriculum}
use Rattle.ctt_reader.specs.Naming.{no_course, no_room}
use Rattle.timed_solution.specs.declared.times.Meeting.{Meeting}
use Rattle.week_page.specs.Escaped.{escaped}
use Rattle.week_page.specs.Style.{style_text}
use Rattle.week_page.specs.Lists.{each_below}
use Rattle.week_page.specs.Cells.{in_cell, of_course, without_room, cell_in, group_in, are_known}
use Rattle.week_page.specs.declared.tables.Tables.{Tables}

abbrev pub course_at : Instance → ℕ → Course
course_at i c = slice_index_or i.courses c no_course

abbrev pub room_at : Instance → ℕ → Room
room_at i r = slice_index_or i.rooms r no_room

abbrev pub no_curriculum : Curriculum
no_curriculum = record { name = []; members = [] }

-- ---- curricula

-- the place of the first curriculum that lists the course, or the number of curricula where none does
abbrev pub first_listing : Instance → ℕ → ℕ
first_listing i c = position_or_len (λ q. list_any (λ m. m == c) q.members) i.curricula

-- one of ten colours by the number of the curriculum, or that of no curriculum
unfoldable pub colour : Instance → ℕ → List ℕ
colour i q = if nat_lt q (length i.curricula) then codes "k" ++ decimal (q % 10) else codes "n"

unfoldable pub curriculum_name : Curriculum → List ℕ
curriculum_name q = codes "<i>" ++ escaped q.name ++ codes "</i>"

-- the name of the curriculum with this number, where there is one
unfoldable pub curriculum_text : Instance → ℕ → List ℕ
curriculum_text i q = if nat_lt q (length i.curricula) then curriculum_name (slice_index_or i.curricula q no_curriculum) else []

-- ---- a course in a cell

-- the name of a course and its students
unfoldable pub named_course : Course → List ℕ
named_course c = codes "\"><b>" ++ escaped c.name ++ codes "</b><small>" ++ decimal c.students ++ codes " students</small>"

-- a course with its students, in the colour of its curriculum and with the curriculum's name; the box is left open
unfoldable pub course_text : Instance → ℕ → List ℕ
course_text i c = codes "<p class=\"" ++ colour i (first_listing i c) ++ named_course (course_at i c) ++ curriculum_text i (first_listing i c)

unfoldable pub over_mark : ℕ → List ℕ
over_mark seats = codes "<em>Over the " ++ decimal seats ++ codes " seats</em>"

-- the mark of a room with too few seats: more students than seats
unfoldable pub over_text : ℕ → ℕ → List ℕ
over_text seats students = if nat_lt seats students then over_mark seats else []

-- a line in a room with so many seats
unfoldable pub entry_text : Instance → ℕ → Meeting → List ℕ
entry_text i seats line = course_text i line.course ++ over_text seats (course_at i line.course).students ++ codes "</p>"

-- ---- the table of a day

unfoldable pub clash_mark : ℕ → List ℕ
clash_mark n = codes "<td class=\"x\"><em>Clash of " ++ decimal n ++ codes " courses</em>"

-- the beginning of a cell with so many lines, marked as a clash where they are two or more
unfoldable pub clash_text : ℕ → List ℕ
clash_text n = if nat_lt 1 n then clash_mark n else codes "<td>"

unfoldable pub cell_text : Instance → ℕ → List Meeting → List ℕ
cell_text i seats lines = clash_text (length lines) ++ flat_map (entry_text i seats) lines ++ codes "</td>"

unfoldable pub room_head : Room → List ℕ
room_head r = codes "<tr><th>" ++ escaped r.name ++ codes "<small>" ++ decimal r.capacity ++ codes " seats</small></th>"

-- the row of a room: a cell for each period
unfoldable pub row_text : Instance → (ℕ → ℕ → ℕ → List Meeting) → ℕ → ℕ → List ℕ
row_text i cell day r =
    room_head (room_at i r) ++ each_below (λ period. cell_text i (room_at i r).capacity (cell day r period)) i.periods ++ codes "</tr>\n"

unfoldable pub period_text : ℕ → List ℕ
period_text period = codes "<th>Period " ++ decimal period ++ codes "</th>"

unfoldable pub day_head : Instance → ℕ → List ℕ
day_head i day =
    codes "<section>\n<h2>Day " ++ decimal day ++ codes "</h2>\n<div>\n<table>\n<thead>\n<tr><th>Room</th>"
    ++ each_below period_text i.periods ++ codes "</tr>\n</thead>\n<tbody>\n"

-- the table of a day: a row for each room
unfoldable pub day_text : Instance → (ℕ → ℕ → ℕ → List Meeting) → ℕ → List ℕ
day_text i cell day =
    day_head i day ++ each_below (row_text i cell day) (length i.rooms) ++ codes "</tbody>\n</table>\n</div>\n</section>\n"

-- ---- the meetings without a room

unfoldable pub unroomed_line : Instance → Meeting → List ℕ
unroomed_line i line =
    codes "<li>" ++ escaped (course_at i line.course).name ++ codes ": day " ++ decimal line.day ++ codes ", period " ++ decimal line.period ++ codes "</li>\n"

unfoldable pub unroomed_text : Instance → List Meeting → List ℕ
unroomed_text i lines =
    codes "<h2>Meetings without a room: " ++ decimal (length lines) ++ codes "</h2>\n<ul>\n" ++ flat_map (unroomed_line i) lines ++ codes "</ul>\n"

-- ---- the courses

-- the room of a line's entry, which is the room's number + 1
unfoldable pub room_text : Instance → ℕ → List ℕ
room_text i entry = if entry == 0 then codes "no room" else escaped (room_at i (entry - 1)).name

unfoldable pub meeting_text : Instance → Meeting → List ℕ
meeting_text i line =
    codes "<span>day " ++ decimal line.day ++ codes ", period " ++ decimal line.period ++ codes ", " ++ room_text i line.room ++ codes "</span>"

-- a course with its meetings
unfoldable pub course_row : Instance → (ℕ → List Meeting) → ℕ → List ℕ
course_row i held c =
    codes "<tr><td>" ++ course_text i c ++ codes "</p></td><td>" ++ flat_map (meeting_text i) (held c) ++ codes "</td></tr>\n"

unfoldable pub courses_head : List ℕ
courses_head = codes "<h2>Courses</h2>\n<div>\n<table>\n<thead>\n<tr><th>Course</th><th>Meetings</th></tr>\n</thead>\n<tbody>\n"

unfoldable pub courses_text : Instance → (ℕ → List Meeting) → List ℕ
courses_text i held = courses_head ++ each_below (course_row i held) (length i.courses) ++ codes "</tbody>\n</table>\n</div>\n"

-- ---- the page

-- the fields after `Name:`
unfoldable pub title_text : Instance → List ℕ
title_text i = codes "Timetable:" ++ flat_map (λ word. codes " " ++ escaped word) i.title

unfoldable pub before_title : List ℕ
before_title = codes "<!DOCTYPE html>\n<html lang=\"en\">\n<head>\n<meta charset=\"utf-8\">\n<meta name=\"viewport\" content=\"width=device-width, initial-scale=1\">\n<title>"

unfoldable pub head_text : Instance → List ℕ
head_text i =
    before_title ++ title_text i ++ codes "</title>\n<style>\n" ++ style_text ++ codes "</style>\n</head>\n<body>\n<h1>" ++ title_text i ++ codes "</h1>\n"

-- from what stands in the cells, the lines of the courses, and the lines without a room
unfoldable pub page_of : Instance → (ℕ → ℕ → ℕ → List Meeting) → (ℕ → List Meeting) → List Meeting → List ℕ
page_of i cell held unroomed =
    head_text i ++ each_below (day_text i cell) i.days ++ unroomed_text i unroomed ++ courses_text i held ++ codes "</body>\n</html>\n"

-- the page of a timetable
abbrev pub page_text : Instance → List Meeting → List ℕ
page_text i lines = page_of i (in_cell lines) (of_course lines) (without_room lines)

-- ---- tables of a page

-- the text of each course
pub record AreCourseTexts (i : Instance) (texts : List (List ℕ)) : Type 0 where
  pub whole : length texts ≡ length i.courses
  pub each : (c : ℕ) → c < length i.courses → slice_index_or texts c [] ≡ course_text i c

-- what the code that prints needs of its tables
pub record ArePrintable (i : Instance) (t : Tables) : Type 0 where
  pub cells : length t.cells.items ≡ i.days * 9648
  pub courses : length t.courses.items ≡ length i.courses
  pub texts : AreCourseTexts i t.texts.items
  pub known_in_cells : (g : ℕ) → are_known i (slice_index_or t.cells.items g []) ≡ true
  pub known_of_courses : (g : ℕ) → are_known i (slice_index_or t.courses.items g []) ≡ true
  pub known_without : are_known i t.unroomed ≡ true

-- the page that is printed of them
abbrev pub page_of_tables : Instance → Tables → List ℕ
page_of_tables i t = page_of i (cell_in t.cells.items) (group_in t.courses.items) t.unroomed
