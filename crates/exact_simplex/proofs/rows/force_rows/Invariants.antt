use Rattle.std.proofs.Common.{◌≡◌, ◌≤◌}
use Rattle.exact_simplex.specs.Force.{Counts}
use Rattle.exact_simplex.specs.Progress.{IsProgress}
use Rattle.exact_simplex.specs.Rows.{AreForced}
use Rattle.exact_simplex.proofs.rows.force_rows.Given as goal

abbrev pub invariant-loop-i : goal.invariant-loop-i
invariant-loop-i g l = record {
  wides : g.A.Arith.wides l.arith ≡ g.A.Arith.wides l.fn.arith;
  progress : IsProgress g.A.Num.Fraction.value l.task l.progress;
  counts : Counts l.limit l.fn.progress l.progress l.fn.steps l.steps;
  forced : AreForced l.lp l.progress.states.items l.i;
  later : l.fn.steps ≤ l.steps;
}
