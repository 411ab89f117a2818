use Rattle.std.proofs.Common.{rules, to_z, to_z-of_z, SFits, sym, ap, ◌∙◌}
use Rattle.std.specs.Int.{w128}
use Rattle.exact_num.proofs.Products.{whole_sum_finds}
use Rattle.exact_num.proofs.parts.sum_parts.Goals as goal

pub returns-then-d-eq1 : goal.returns-then-d-eq1
returns-then-d-eq1 c =
    let fa : SFits w128 c.args.a = search rules in
    let fc : SFits w128 c.args.c = search rules in
    let fb : SFits w128 c.args.b = search rules in
    let fd : SFits w128 c.args.d = search rules in
    let h = c.whole_sum.ensures in
    whole_sum_finds c.args.bound c.args.a c.args.b c.args.c c.args.d c.whole_sum.result (sym (to_z-of_z fb) ∙ ap (to_z w128) c.if-b-eq1.true) (sym (to_z-of_z fd) ∙ ap (to_z w128) c.if-d-eq1.true) (simp to_z-of_z at h)
