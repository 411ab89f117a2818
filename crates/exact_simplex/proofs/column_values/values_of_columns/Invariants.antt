use Rattle.std.proofs.Common.{◌≡◌}
use Rattle.exact_simplex.specs.Values.{AreValuesTo}
use Rattle.exact_simplex.proofs.column_values.values_of_columns.Given as goal

abbrev pub invariant-loop-p : goal.invariant-loop-p
invariant-loop-p g l = record {
  wides : g.A.Arith.wides l.arith ≡ g.A.Arith.wides l.fn.arith;
  so_far : AreValuesTo g.A.Num.Fraction.value l.columns l.variables l.numbers l.p l.values.items;
}
