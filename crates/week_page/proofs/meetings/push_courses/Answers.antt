use Rattle.std.proofs.Common.{◌≡◌, ◌++◌, List, ℕ, length}
use Rattle.std.specs.Prelude.{codes}
use Rattle.week_page.specs.Lists.{each_below}
use Rattle.week_page.specs.Cells.{group_in}
use Rattle.week_page.specs.Page.{courses_text, courses_head, course_row}
use Rattle.week_page.proofs.ListLemmas.{more}
use Rattle.week_page.proofs.meetings.push_courses.Goals as goal

pub returns : goal.returns
unfolding courses_text
returns c =
    let b0 = c.args.text.now.items in
    let b1 = c.push_courses_head.new.text.items in
    let l1 : List ℕ = courses_head in
    let e1 : b1 ≡ b0 ++ l1 = c.in_ok-push_courses_head.ensures in
    let b2 = c.push_course_rows.new.text.items in
    let l2 : List ℕ = each_below (course_row c.args.i.now (group_in c.args.t.now.courses.items)) (length c.args.i.now.courses) in
    let e2 : b2 ≡ b1 ++ l2 = c.in_ok-push_course_rows.ensures in
    let d2 : b2 ≡ b0 ++ (l1 ++ l2) = more b0 b1 b2 (l1) l2 e1 e2 in
    let b3 = c.extend_from_slice.new.self.items in
    let l3 : List ℕ = codes "</tbody>\n</table>\n</div>\n" in
    let e3 : b3 ≡ b2 ++ l3 = c.in_ok-extend_from_slice.ensures.items in
    let d3 : b3 ≡ b0 ++ (l1 ++ l2 ++ l3) = more b0 b2 b3 (l1 ++ l2) l3 d2 e3 in
    d3
