use Rattle.std.proofs.Common.{◌≡◌, ◌++◌, ◌∙◌, ap, List, ℕ}
use Rattle.std.specs.Prelude.{codes, decimal}
use Rattle.week_page.specs.Page.{over_mark}
use Rattle.week_page.proofs.ListLemmas.{more}
use Rattle.week_page.proofs.days.push_over_mark.Goals as goal

pub returns : goal.returns
unfolding over_mark
returns c =
    let b0 = c.args.text.now.items in
    let b1 = c.extend_from_slice.new.self.items in
    let l1 : List ℕ = codes "<em>Over the " in
    let e1 : b1 ≡ b0 ++ l1 = c.in_ok-extend_from_slice.ensures.items in
    let b2 = c.push_decimal.new.text.items in
    let l2 : List ℕ = decimal c.args.seats in
    let e2 : b2 ≡ b1 ++ l2 = c.in_ok-push_decimal.ensures ∙ ap (λ n. b1 ++ decimal n) c.from.ensures in
    let d2 : b2 ≡ b0 ++ (l1 ++ l2) = more b0 b1 b2 (l1) l2 e1 e2 in
    let b3 = c.extend_from_slice-2.new.self.items in
    let l3 : List ℕ = codes " seats</em>" in
    let e3 : b3 ≡ b2 ++ l3 = c.in_ok-extend_from_slice-2.ensures.items in
    let d3 : b3 ≡ b0 ++ (l1 ++ l2 ++ l3) = more b0 b2 b3 (l1 ++ l2) l3 d2 e3 in
    d3
