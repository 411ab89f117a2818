use Rattle.std.proofs.Common.{◌≡◌, ◌<◌, ◌∙◌, ◌++◌, ap, get_or, length, arith, rules, subst, sym, ℕ}
use Rattle.std.specs.Prelude.{codes, neg_ℤ, pos}
use Rattle.problem_core.specs.Kept.{IsWithin}
use Rattle.reports.specs.Lines.{value_line}
use Rattle.reports.proofs.ValueLaws.{six_lines, within_at, turned_back, turned_line}
use Rattle.reports.proofs.six_values.value_lines.Goals as goal

pub turned-requires : goal.turned-requires
turned-requires c =
    let six : 4 < length c.args.values.now = search rules in
    let w = within_at (pos 1000000000000) c.args.values.now 4 (pos 0) six c.requires in
    subst (λ z. IsWithin (pos 1000000000000) z) (sym (turned_back (get_or c.args.values.now 4 (pos 0)) w)) w

pub returns : goal.returns
returns c =
    let v = c.args.values.now in
    let six : length v ≡ 6 = search rules in
    let at = λ (k : ℕ) (l : k < 6). turned_back (get_or v k (pos 0)) (within_at (pos 1000000000000) v k (pos 0) (omega (arith, six, l)) c.requires) in
    six_lines _ c.push_value.new.text.items c.push_value-2.new.text.items c.push_value-3.new.text.items c.push_value-4.new.text.items c.push_value-5.new.text.items c.push_value-6.new.text.items
    (value_line (codes "event hours") (get_or v 0 (pos 0))) (value_line (codes "seated students") (get_or v 1 (pos 0))) (value_line (codes "seat utilisation") (get_or v 2 (pos 0)))
    (value_line (codes "room preference") (get_or v 3 (pos 0))) (value_line (codes "course rooms") (neg_ℤ (get_or v 4 (pos 0)))) (value_line (codes "spare robustness") (get_or v 5 (pos 0)))
    c.new-text.ensures.items
    (c.in_ok-push_value.ensures ∙ ap (λ z. c.new-text.result.items ++ value_line (codes "event hours") z) (at 0 (omega arith)))
    (c.in_ok-push_value-2.ensures ∙ ap (λ z. c.push_value.new.text.items ++ value_line (codes "seated students") z) (at 1 (omega arith)))
    (c.in_ok-push_value-3.ensures ∙ ap (λ z. c.push_value-2.new.text.items ++ value_line (codes "seat utilisation") z) (at 2 (omega arith)))
    (c.in_ok-push_value-4.ensures ∙ ap (λ z. c.push_value-3.new.text.items ++ value_line (codes "room preference") z) (at 3 (omega arith)))
    (c.in_ok-push_value-5.ensures ∙ ap (λ z. c.push_value-4.new.text.items ++ value_line (codes "course rooms") z)
    (turned_line (get_or v 4 (pos 0)) c.turned.result (within_at (pos 1000000000000) v 4 (pos 0) (omega (arith, six)) c.requires) c.turned.ensures))
    (c.in_ok-push_value-6.ensures ∙ ap (λ z. c.push_value-5.new.text.items ++ value_line (codes "spare robustness") z) (at 5 (omega arith)))
