use Rattle.std.proofs.Common.{refl, ap, sym, ◌∙◌}
use Rattle.exact_num.specs.Ops.{◌+ℚ◌, zero-+ℚ}
use Rattle.simplex_tableau.proofs.products.plus.Goals as goal

pub returns-in-Equal : goal.returns-in-Equal
returns-in-Equal g c =
    let b = g.A.Num.Fraction.value c.args.b in
    (refl, sym (ap (λ a. a +ℚ b) c.in-Equal.ensures ∙ zero-+ℚ b))
