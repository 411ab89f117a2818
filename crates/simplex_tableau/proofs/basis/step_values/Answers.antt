use Rattle.simplex_tableau.proofs.SignsLaws.{num_some}
use Rattle.simplex_tableau.proofs.basis.step_values.Goals as goal

pub div-requires : goal.div-requires
div-requires g c = num_some (g.A.Num.Fraction.value c.args.divisor) c.requires.some
