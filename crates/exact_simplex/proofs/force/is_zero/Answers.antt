use Rattle.std.proofs.Common.{sym}
use Rattle.exact_num.specs.Ops.{zero_ℚ}
use Rattle.exact_num.specs.Order.{<ℚ-not-≡}
use Rattle.exact_simplex.proofs.force.is_zero.Goals as goal

pub returns-in-Less : goal.returns-in-Less
returns-in-Less g c = <ℚ-not-≡ (g.N.Fraction.value c.args.x) zero_ℚ c.in-Less.ensures

pub returns-in-Greater : goal.returns-in-Greater
returns-in-Greater g c = λ e. <ℚ-not-≡ zero_ℚ (g.N.Fraction.value c.args.x) c.in-Greater.ensures (sym e)
