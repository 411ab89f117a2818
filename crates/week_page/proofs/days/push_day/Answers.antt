use Rattle.std.proofs.Common.{◌≡◌, ◌++◌, List, ℕ, length}
use Rattle.std.specs.Prelude.{codes}
use Rattle.week_page.specs.Lists.{each_below}
use Rattle.week_page.specs.Cells.{cell_in}
use Rattle.week_page.specs.Page.{day_text, day_head, row_text}
use Rattle.week_page.proofs.ListLemmas.{more}
use Rattle.week_page.proofs.days.push_day.Goals as goal

pub returns : goal.returns
unfolding day_text
returns c =
    let b0 = c.args.text.now.items in
    let b1 = c.push_day_head.new.text.items in
    let l1 : List ℕ = day_head c.args.i.now c.args.day in
    let e1 : b1 ≡ b0 ++ l1 = c.in_ok-push_day_head.ensures in
    let b2 = c.push_rows.new.text.items in
    let l2 : List ℕ = each_below (row_text c.args.i.now (cell_in c.args.t.now.cells.items) c.args.day) (length c.args.i.now.rooms) in
    let e2 : b2 ≡ b1 ++ l2 = c.in_ok-push_rows.ensures in
    let d2 : b2 ≡ b0 ++ (l1 ++ l2) = more b0 b1 b2 (l1) l2 e1 e2 in
    let b3 = c.extend_from_slice.new.self.items in
    let l3 : List ℕ = codes "</tbody>\n</table>\n</div>\n</section>\n" in
    let e3 : b3 ≡ b2 ++ l3 = c.in_ok-extend_from_slice.ensures.items in
    let d3 : b3 ≡ b0 ++ (l1 ++ l2 ++ l3) = more b0 b2 b3 (l1 ++ l2) l3 d2 e3 in
    d3
