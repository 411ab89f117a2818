use Rattle.exact_num.specs.Ops.{zero_ℚ}
use Rattle.exact_num.specs.Order.{<ℚ-not-≡}
use Rattle.simplex_tableau.proofs.SignsLaws.{num_some}
use Rattle.exact_simplex.proofs.multipliers.over_negative.Goals as goal

pub div-requires : goal.div-requires
div-requires g c =
    let divisor = g.A.Num.Fraction.value c.args.divisor in
    num_some divisor (λ e. <ℚ-not-≡ divisor zero_ℚ c.in-Less.ensures e)
