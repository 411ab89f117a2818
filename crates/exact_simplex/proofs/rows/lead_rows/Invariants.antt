use Rattle.std.proofs.Common.{◌≡◌}
use Rattle.exact_simplex.specs.Progress.{IsProgress}
use Rattle.exact_simplex.specs.Rows.{AreLed}
use Rattle.exact_simplex.proofs.rows.lead_rows.Given as goal

abbrev pub invariant-loop-i : goal.invariant-loop-i
invariant-loop-i g l = record {
  progress : IsProgress g.N.Fraction.value l.task l.progress;
  none : l.progress.pivots ≡ 0;
  led : AreLed l.lp l.progress.states.items l.i;
}
