use Rattle.std.proofs.Common.{refl, ap, sym, ◌∙◌}
use Rattle.exact_num.specs.Ops.{◌+ℚ◌, ◌*ℚ◌, +ℚ-zero, zero-*ℚ}
use Rattle.simplex_tableau.proofs.products.plus_times.Goals as goal

pub returns-in-Equal : goal.returns-in-Equal
returns-in-Equal g c =
    let value = g.A.Num.Fraction.value in
    (refl, sym (ap (λ u. value c.args.total +ℚ u *ℚ value c.args.b) c.in-Equal.ensures ∙ ap (λ u. value c.args.total +ℚ u) (zero-*ℚ (value c.args.b)) ∙ +ℚ-zero (value c.args.total)))
