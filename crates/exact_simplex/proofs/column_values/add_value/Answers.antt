use Rattle.std.proofs.Common.{refl, arith}
use Rattle.exact_simplex.proofs.ValueLemmas.{adds_value, adds_nothing}
use Rattle.exact_simplex.proofs.column_values.add_value.Goals as goal

pub returns-in_ok-sum : goal.returns-in_ok-sum
returns-in_ok-sum g c = (c.in_ok-sum.ensures.kept, adds_value g.A.Num.Fraction.value c.args.values.now c.args.variable c.args.number c.index-values-variable.result c.in_ok-sum.sum c.if-variable-values.true c.index-values-variable.is c.in_ok-sum.ensures.value)

pub returns-else-variable-values : goal.returns-else-variable-values
returns-else-variable-values g c = (refl, adds_nothing g.A.Num.Fraction.value c.args.values.now c.args.variable (g.A.Num.Fraction.value c.args.number) (let k = c.if-variable-values.false in omega arith))
