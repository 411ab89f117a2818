use Rattle.std.specs.Prelude.{codes}
use Rattle.itc_score.specs.Texts.{count_line}
use Rattle.itc_score.proofs.TextLemmas.{five_lines}
use Rattle.itc_score.proofs.texts.push_hard.Goals as goal

pub returns : goal.returns
returns c =
    let s = c.args.s in
    five_lines c.args.text.now.items c.push_count.new.text.items c.push_count-2.new.text.items c.push_count-3.new.text.items c.push_count-4.new.text.items c.push_count-5.new.text.items
    (count_line (codes "lectures missing") s.missing) (count_line (codes "unroomed") s.unroomed) (count_line (codes "room occupancy") s.occupancy) (count_line (codes "conflicts") s.conflicts) (count_line (codes "availability") s.availability)
    c.in_ok-push_count.ensures c.in_ok-push_count-2.ensures c.in_ok-push_count-3.ensures c.in_ok-push_count-4.ensures c.in_ok-push_count-5.ensures
