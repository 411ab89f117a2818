use Rattle.std.proofs.Common.{◌≡◌, ◌++◌, List, ℕ}
use Rattle.std.specs.Prelude.{codes}
use Rattle.std.specs.List.{flat_map}
use Rattle.week_page.specs.Cells.{group_in}
use Rattle.week_page.specs.Page.{course_row, course_text, meeting_text}
use Rattle.week_page.proofs.ListLemmas.{more}
use Rattle.week_page.proofs.meetings.push_course_row.Goals as goal

pub returns : goal.returns
unfolding course_row
returns c =
    let b0 = c.args.text.now.items in
    let b1 = c.extend_from_slice.new.self.items in
    let l1 : List ℕ = codes "<tr><td>" in
    let e1 : b1 ≡ b0 ++ l1 = c.in_ok-extend_from_slice.ensures.items in
    let b2 = c.push_text_of.new.text.items in
    let l2 : List ℕ = course_text c.args.i.now c.args.course in
    let e2 : b2 ≡ b1 ++ l2 = c.in_ok-push_text_of.ensures in
    let d2 : b2 ≡ b0 ++ (l1 ++ l2) = more b0 b1 b2 (l1) l2 e1 e2 in
    let b3 = c.extend_from_slice-2.new.self.items in
    let l3 : List ℕ = codes "</p></td><td>" in
    let e3 : b3 ≡ b2 ++ l3 = c.in_ok-extend_from_slice-2.ensures.items in
    let d3 : b3 ≡ b0 ++ (l1 ++ l2 ++ l3) = more b0 b2 b3 (l1 ++ l2) l3 d2 e3 in
    let b4 = c.push_meetings_of.new.text.items in
    let l4 : List ℕ = flat_map (meeting_text c.args.i.now) (group_in c.args.t.now.courses.items c.args.course) in
    let e4 : b4 ≡ b3 ++ l4 = c.in_ok-push_meetings_of.ensures in
    let d4 : b4 ≡ b0 ++ (l1 ++ l2 ++ l3 ++ l4) = more b0 b3 b4 (l1 ++ l2 ++ l3) l4 d3 e4 in
    let b5 = c.extend_from_slice-3.new.self.items in
    let l5 : List ℕ = codes "</td></tr>\n" in
    let e5 : b5 ≡ b4 ++ l5 = c.in_ok-extend_from_slice-3.ensures.items in
    let d5 : b5 ≡ b0 ++ (l1 ++ l2 ++ l3 ++ l4 ++ l5) = more b0 b4 b5 (l1 ++ l2 ++ l3 ++ l4) l5 d4 e5 in
    d5
