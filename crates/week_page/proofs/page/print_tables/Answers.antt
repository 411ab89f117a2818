use Rattle.std.proofs.Common.{◌≡◌, ◌++◌, ◌∙◌, ap, List, [], ℕ}
use Rattle.std.specs.Prelude.{codes}
use Rattle.week_page.specs.Lists.{each_below}
use Rattle.week_page.specs.Cells.{cell_in, group_in}
use Rattle.week_page.specs.Page.{page_of, head_text, day_text, unroomed_text, courses_text}
use Rattle.timed_solution.specs.declared.times.Meeting.{Meeting}
use Rattle.week_page.proofs.ListLemmas.{more}
use Rattle.week_page.proofs.page.print_tables.Goals as goal

pub returns : goal.returns
unfolding page_of
returns c =
    let b0 : List ℕ = [] in
    let b1 = c.push_head.new.text.items in
    let l1 : List ℕ = head_text c.args.i.now in
    let e1 : b1 ≡ b0 ++ l1 = c.in_ok-push_head.ensures ∙ ap (λ (b : List ℕ). b ++ head_text c.args.i.now) c.new-text.ensures.items in
    let b2 = c.push_days.new.text.items in
    let l2 : List ℕ = each_below (day_text c.args.i.now (cell_in c.args.t.now.cells.items)) c.args.i.now.days in
    let e2 : b2 ≡ b1 ++ l2 = c.in_ok-push_days.ensures in
    let d2 : b2 ≡ b0 ++ (l1 ++ l2) = more b0 b1 b2 (l1) l2 e1 e2 in
    let b3 = c.push_unroomed.new.text.items in
    let l3 : List ℕ = unroomed_text c.args.i.now c.args.t.now.unroomed in
    let e3 : b3 ≡ b2 ++ l3 = c.in_ok-push_unroomed.ensures ∙ ap (λ (xs : List Meeting). b2 ++ unroomed_text c.args.i.now xs) c.as_slice.ensures in
    let d3 : b3 ≡ b0 ++ (l1 ++ l2 ++ l3) = more b0 b2 b3 (l1 ++ l2) l3 d2 e3 in
    let b4 = c.push_courses.new.text.items in
    let l4 : List ℕ = courses_text c.args.i.now (group_in c.args.t.now.courses.items) in
    let e4 : b4 ≡ b3 ++ l4 = c.in_ok-push_courses.ensures in
    let d4 : b4 ≡ b0 ++ (l1 ++ l2 ++ l3 ++ l4) = more b0 b3 b4 (l1 ++ l2 ++ l3) l4 d3 e4 in
    let b5 = c.extend_from_slice.new.self.items in
    let l5 : List ℕ = codes "</body>\n</html>\n" in
    let e5 : b5 ≡ b4 ++ l5 = c.in_ok-extend_from_slice.ensures.items in
    let d5 : b5 ≡ b0 ++ (l1 ++ l2 ++ l3 ++ l4 ++ l5) = more b0 b4 b5 (l1 ++ l2 ++ l3 ++ l4) l5 d4 e5 in
    d5
