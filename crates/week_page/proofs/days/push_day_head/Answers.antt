use Rattle.std.proofs.Common.{◌≡◌, ◌++◌, List, ℕ}
use Rattle.std.specs.Prelude.{codes, decimal}
use Rattle.week_page.specs.Lists.{each_below}
use Rattle.week_page.specs.Page.{day_head, period_text}
use Rattle.week_page.proofs.ListLemmas.{more}
use Rattle.week_page.proofs.days.push_day_head.Goals as goal

pub returns : goal.returns
unfolding day_head
returns c =
    let b0 = c.args.text.now.items in
    let b1 = c.extend_from_slice.new.self.items in
    let l1 : List ℕ = codes "<section>\n<h2>Day " in
    let e1 : b1 ≡ b0 ++ l1 = c.in_ok-extend_from_slice.ensures.items in
    let b2 = c.push_decimal.new.text.items in
    let l2 : List ℕ = decimal c.args.day in
    let e2 : b2 ≡ b1 ++ l2 = c.in_ok-push_decimal.ensures in
    let d2 : b2 ≡ b0 ++ (l1 ++ l2) = more b0 b1 b2 (l1) l2 e1 e2 in
    let b3 = c.extend_from_slice-2.new.self.items in
    let l3 : List ℕ = codes "</h2>\n<div>\n<table>\n<thead>\n<tr><th>Room</th>" in
    let e3 : b3 ≡ b2 ++ l3 = c.in_ok-extend_from_slice-2.ensures.items in
    let d3 : b3 ≡ b0 ++ (l1 ++ l2 ++ l3) = more b0 b2 b3 (l1 ++ l2) l3 d2 e3 in
    let b4 = c.push_periods.new.text.items in
    let l4 : List ℕ = each_below period_text c.args.i.now.periods in
    let e4 : b4 ≡ b3 ++ l4 = c.in_ok-push_periods.ensures in
    let d4 : b4 ≡ b0 ++ (l1 ++ l2 ++ l3 ++ l4) = more b0 b3 b4 (l1 ++ l2 ++ l3) l4 d3 e4 in
    let b5 = c.extend_from_slice-3.new.self.items in
    let l5 : List ℕ = codes "</tr>\n</thead>\n<tbody>\n" in
    let e5 : b5 ≡ b4 ++ l5 = c.in_ok-extend_from_slice-3.ensures.items in
    let d5 : b5 ≡ b0 ++ (l1 ++ l2 ++ l3 ++ l4 ++ l5) = more b0 b4 b5 (l1 ++ l2 ++ l3 ++ l4) l5 d4 e5 in
    d5
