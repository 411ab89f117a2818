use Rattle.std.proofs.Common.{◌≡◌, ◌++◌, ◌∙◌, ap, List, ℕ}
use Rattle.std.specs.Prelude.{codes, decimal}
use Rattle.week_page.specs.Escaped.{escaped}
use Rattle.week_page.specs.Page.{named_course}
use Rattle.week_page.proofs.ListLemmas.{more}
use Rattle.week_page.proofs.courses.push_named.Goals as goal

pub returns : goal.returns
unfolding named_course
returns c =
    let b0 = c.args.text.now.items in
    let b1 = c.extend_from_slice.new.self.items in
    let l1 : List ℕ = codes "\"><b>" in
    let e1 : b1 ≡ b0 ++ l1 = c.in_ok-extend_from_slice.ensures.items in
    let b2 = c.push_escaped.new.text.items in
    let l2 : List ℕ = escaped c.args.course.now.name in
    let e2 : b2 ≡ b1 ++ l2 = c.in_ok-push_escaped.ensures ∙ ap (λ (xs : List ℕ). b1 ++ escaped xs) c.as_bytes.ensures in
    let d2 : b2 ≡ b0 ++ (l1 ++ l2) = more b0 b1 b2 (l1) l2 e1 e2 in
    let b3 = c.extend_from_slice-2.new.self.items in
    let l3 : List ℕ = codes "</b><small>" in
    let e3 : b3 ≡ b2 ++ l3 = c.in_ok-extend_from_slice-2.ensures.items in
    let d3 : b3 ≡ b0 ++ (l1 ++ l2 ++ l3) = more b0 b2 b3 (l1 ++ l2) l3 d2 e3 in
    let b4 = c.push_decimal.new.text.items in
    let l4 : List ℕ = decimal c.args.course.now.students in
    let e4 : b4 ≡ b3 ++ l4 = c.in_ok-push_decimal.ensures ∙ ap (λ n. b3 ++ decimal n) c.from.ensures in
    let d4 : b4 ≡ b0 ++ (l1 ++ l2 ++ l3 ++ l4) = more b0 b3 b4 (l1 ++ l2 ++ l3) l4 d3 e4 in
    let b5 = c.extend_from_slice-3.new.self.items in
    let l5 : List ℕ = codes " students</small>" in
    let e5 : b5 ≡ b4 ++ l5 = c.in_ok-extend_from_slice-3.ensures.items in
    let d5 : b5 ≡ b0 ++ (l1 ++ l2 ++ l3 ++ l4 ++ l5) = more b0 b4 b5 (l1 ++ l2 ++ l3 ++ l4) l5 d4 e5 in
    d5
