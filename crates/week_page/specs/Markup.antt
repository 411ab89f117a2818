-- No name adds a tag to the page.
use Rattle.std.specs.Prelude.{ℕ, ◌≡◌, false, List, [], map}
use Rattle.std.specs.List.{filter, list_any}
use Rattle.ctt_reader.specs.declared.instance.Instance.{Instance}
use Rattle.ctt_reader.specs.declared.instance.Course.{Course}
use Rattle.ctt_reader.specs.declared.instance.Room.{Room}
use Rattle.ctt_reader.specs.declared.instance.Curriculum.{Curriculum}
use Rattle.timed_solution.specs.declared.times.Meeting.{Meeting}
use Rattle.week_page.specs.Escaped.{escaped, is_mark}
use Rattle.week_page.specs.Page.{page_text}

-- the marks of a text, `<`, `>`, `"` and `'`, in their order
abbrev pub marks : List ℕ → List ℕ
marks text = filter is_mark text

abbrev pub nameless_course : Course → Course
nameless_course c = record c { name = [] }

abbrev pub nameless_room : Room → Room
nameless_room r = record r { name = [] }

abbrev pub nameless_curriculum : Curriculum → Curriculum
nameless_curriculum q = record q { name = [] }

-- the same instance with empty names: of courses, rooms and curricula, and in its title
abbrev pub nameless : Instance → Instance
nameless i = record i {
  title = map (λ (word : List ℕ). []) i.title;
  courses = map nameless_course i.courses;
  rooms = map nameless_room i.rooms;
  curricula = map nameless_curriculum i.curricula;
}

-- the text of a name has no mark
abbrev pub NamesHaveNoMarks : Type 0
NamesHaveNoMarks = (name : List ℕ) → list_any is_mark (escaped name) ≡ false

-- the marks of a page are those of the page without names: so whatever the names are, they add no tag and end none
abbrev pub NamesAddNoMarks : Type 0
NamesAddNoMarks = (i : Instance) (lines : List Meeting) → marks (page_text i lines) ≡ marks (page_text (nameless i) lines)
