use Rattle.std.proofs.Common.{sym, ◌∙◌, ap, rules, to_z, to_z-of_z, SFits, ◌≡◌}
use Rattle.std.specs.Int.{w128}
use Rattle.std.specs.Ordering.{int_cmp}
use Rattle.exact_num.specs.Cross.{int_cmp-scaled, cross_cmp}
use Rattle.exact_num.proofs.parts.compare.Goals as goal

pub returns-then-b-d : goal.returns-then-b-d
returns-then-b-d c =
    let fa : SFits w128 c.args.a = search rules in
    let fc : SFits w128 c.args.c = search rules in
    let fb : SFits w128 c.args.b = search rules in
    let fd : SFits w128 c.args.d = search rules in
    let b_d : c.args.b ≡ c.args.d = sym (to_z-of_z fb) ∙ ap (to_z w128) c.if-b-d.true ∙ to_z-of_z fd in
    let h = c.cmp.ensures in
    let e : c.cmp.result ≡ int_cmp c.args.a c.args.c = simp to_z-of_z at h in
    let s : cross_cmp c.args.a c.args.d c.args.c c.args.d ≡ int_cmp c.args.a c.args.c = int_cmp-scaled c.args.a c.args.c c.args.d c.requires.second in
    e ∙ sym s ∙ ap (λ z. cross_cmp c.args.a z c.args.c c.args.d) (sym b_d)
