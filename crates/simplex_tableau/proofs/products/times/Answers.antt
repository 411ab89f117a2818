use Rattle.std.proofs.Common.{refl, ap, sym, ◌∙◌}
use Rattle.exact_num.specs.Ops.{◌*ℚ◌, *ℚ-one, *ℚ_comm}
use Rattle.simplex_tableau.proofs.products.times.Goals as goal

pub returns-then-is_one : goal.returns-then-is_one
returns-then-is_one g c =
    let a = g.A.Num.Fraction.value c.args.a in
    (refl, sym (ap (λ b. a *ℚ b) (c.is_one.ensures c.if-is_one.true) ∙ *ℚ-one a))

pub returns-then-is_one-2 : goal.returns-then-is_one-2
returns-then-is_one-2 g c =
    let a = g.A.Num.Fraction.value c.args.a in
    let b = g.A.Num.Fraction.value c.args.b in
    (refl, sym (*ℚ_comm a b ∙ ap (λ u. b *ℚ u) (c.is_one-2.ensures c.if-is_one-2.true) ∙ *ℚ-one b))
