use Rattle.std.proofs.Common.{sym, ◌∙◌, get_or}
use Rattle.std.specs.Prelude.{pos}
use Rattle.packing_model.specs.Built.{packing}
use Rattle.clique_cuts.proofs.SearchLaws.{broken_three}
use Rattle.clique_cuts.proofs.broken.third_of.Goals as goal

pub returns-then-can_end : goal.returns-then-can_end
returns-then-can_end c =
    let i = c.loop-third.third-index in
    let third = get_or c.args.group.now i (0, pos 0) in
    broken_three (packing c.args.m.now) c.args.point.now c.args.first c.args.second third c.requires.first c.requires.second (c.requires.entries i (0, pos 0) c.loop-third-test.true) c.requires.clash (sym c.can_end.ensures ∙ c.if-can_end.true)
