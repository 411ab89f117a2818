use Rattle.std.proofs.Common.{◌≡◌, ◌≤◌, ◌-◌}
use Rattle.exact_simplex.specs.Drive.{Keeps, IsThere}
use Rattle.exact_simplex.proofs.keeping.drive_kept.Given as goal

abbrev pub invariant-drive : goal.invariant-drive
invariant-drive g l = record {
  wides : g.A.Arith.wides l.arith ≡ g.A.Arith.wides l.fn.arith;
  keeps : Keeps g.A.Num.Fraction.value l.task l.limit l.fn.progress l.progress l.fn.steps l.steps;
  there : IsThere g.A.Num.Fraction.value l.task l.row l.fn.progress l.progress l.y;
  later : l.fn.steps ≤ l.steps;
}

abbrev pub decreases-drive : goal.decreases-drive
decreases-drive g l = l.limit - l.progress.pivots
