use Rattle.std.proofs.Common.{◌∙◌, ◌++◌, ap}
use Rattle.std.specs.Prelude.{codes}
use Rattle.itc_score.specs.Score.{soft_total}
use Rattle.itc_score.specs.Texts.{count_line}
use Rattle.itc_score.proofs.TextLemmas.{five_lines}
use Rattle.itc_score.proofs.texts.push_soft.Goals as goal

pub returns : goal.returns
returns c =
    let s = c.args.s in
    five_lines c.args.text.now.items c.push_count.new.text.items c.push_count-2.new.text.items c.push_count-3.new.text.items c.push_count-4.new.text.items c.push_count-5.new.text.items
    (count_line (codes "room capacity") s.capacity) (count_line (codes "minimum working days") s.days) (count_line (codes "curriculum compactness") s.compactness) (count_line (codes "room stability") s.stability) (count_line (codes "soft total") (soft_total s))
    c.in_ok-push_count.ensures c.in_ok-push_count-2.ensures c.in_ok-push_count-3.ensures c.in_ok-push_count-4.ensures
    (c.in_ok-push_count-5.ensures ∙ ap (λ n. c.push_count-4.new.text.items ++ count_line (codes "soft total") n) c.soft_total.ensures)
