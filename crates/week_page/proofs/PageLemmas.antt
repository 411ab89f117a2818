-- The page of tables is the page of their lines.
use Rattle.std.proofs.Common.{ℕ, ◌≡◌, ◌<◌, ◌∙◌, ap, ap₂, List, ◌++◌, true, length}
use Rattle.std.specs.List.{list_all, flat_map}
use Rattle.ctt_reader.specs.Promised.{IsInstance}
use Rattle.ctt_reader.specs.declared.instance.Instance.{Instance}
use Rattle.timed_solution.specs.declared.times.Meeting.{Meeting}
use Rattle.timed_solution.specs.Times.{is_meeting}
use Rattle.week_page.specs.Cells.{in_cell, of_course, without_room, AreGroups, cell_in, group_in}
use Rattle.std.specs.Prelude.{codes}
use Rattle.week_page.specs.Page.{room_at, room_head, cell_text, row_text, day_head, day_text, unroomed_text, course_text, meeting_text, course_row, courses_head, courses_text, head_text, page_of, page_text, page_of_tables}
use Rattle.week_page.specs.declared.groups.Grouping.TheVariants.{ByCell, ByCourse}
use Rattle.week_page.specs.declared.tables.Tables.{Tables}
use Rattle.week_page.proofs.ListLemmas.{each_below-same}
use Rattle.week_page.proofs.TableLemmas.{cell_is, group_is}

abbrev Cells : Type 0
Cells = ℕ → ℕ → ℕ → List Meeting

row_same : (i : Instance) (f g : Cells) (d r : ℕ) → ((p : ℕ) → p < i.periods → f d r p ≡ g d r p) → row_text i f d r ≡ row_text i g d r
unfolding row_text
row_same i f g d r same =
    ap (λ (xs : List ℕ). room_head (room_at i r) ++ xs ++ codes "</tr>\n")
    (each_below-same (λ p. cell_text i (room_at i r).capacity (f d r p)) (λ p. cell_text i (room_at i r).capacity (g d r p)) i.periods (λ p l. ap (cell_text i (room_at i r).capacity) (same p l)))

day_same : (i : Instance) (f g : Cells) (d : ℕ) → ((r p : ℕ) → r < length i.rooms → p < i.periods → f d r p ≡ g d r p) → day_text i f d ≡ day_text i g d
unfolding day_text
day_same i f g d same =
    ap (λ (xs : List ℕ). day_head i d ++ xs ++ codes "</tbody>\n</table>\n</div>\n</section>\n")
    (each_below-same (row_text i f d) (row_text i g d) (length i.rooms) (λ r l. row_same i f g d r (λ p m. same r p l m)))

course_same : (i : Instance) (f g : ℕ → List Meeting) (c : ℕ) → f c ≡ g c → course_row i f c ≡ course_row i g c
unfolding course_row
course_same i f g c same = ap (λ (xs : List Meeting). codes "<tr><td>" ++ course_text i c ++ codes "</p></td><td>" ++ flat_map (meeting_text i) xs ++ codes "</td></tr>\n") same

courses_same : (i : Instance) (f g : ℕ → List Meeting) → ((c : ℕ) → f c ≡ g c) → courses_text i f ≡ courses_text i g
unfolding courses_text
courses_same i f g same =
    ap (λ (xs : List ℕ). courses_head ++ xs ++ codes "</tbody>\n</table>\n</div>\n")
    (each_below-same (course_row i f) (course_row i g) (length i.courses) (λ c l. course_same i f g c (same c)))

page_same : (i : Instance) (f g : Cells) (h k : ℕ → List Meeting) (u : List Meeting) → ((d r p : ℕ) → r < length i.rooms → p < i.periods → f d r p ≡ g d r p) → ((c : ℕ) → h c ≡ k c) → page_of i f h u ≡ page_of i g k u
unfolding page_of
page_same i f g h k u cells held =
    ap₂ (λ (xs ys : List ℕ). head_text i ++ xs ++ unroomed_text i u ++ ys ++ codes "</body>\n</html>\n")
    (each_below-same (day_text i f) (day_text i g) i.days (λ d l. day_same i f g d (cells d)))
    (courses_same i h k held)

pub page_is : (i : Instance) (lines : List Meeting) (t : Tables) → IsInstance i → list_all (is_meeting i) lines ≡ true
    → AreGroups ByCell lines t.cells.items → AreGroups ByCourse lines t.courses.items → t.unroomed ≡ without_room lines → page_of_tables i t ≡ page_text i lines
page_is i lines t good all cells courses unroomed =
    page_same i (cell_in t.cells.items) (in_cell lines) (group_in t.courses.items) (of_course lines) t.unroomed (λ d r p lr lp. cell_is i lines t.cells.items d r p good all cells lr lp) (λ c. group_is lines t.courses.items c courses)
    ∙ ap (page_of i (in_cell lines) (of_course lines)) unroomed
