use Rattle.std.proofs.Common.{◌≡◌, ◌*◌, ◌^◌, ◌+ℤ◌, drop}
use Rattle.numbers.specs.Sums.{total}
use Rattle.duality.specs.Sums.{weighed, IsWithin}
use Rattle.duality.proofs.sums.weigh.Given as goal

abbrev pub invariant-loop-pattern : goal.invariant-loop-pattern
invariant-loop-pattern g l = record {
  rest : l.sum +ℤ total (weighed (record { weight = g.O.Objective.weight l.objective; floor = g.O.Objective.floor l.objective }) l.what) (drop l.pattern-index l.patterns)
      ≡ total (weighed (record { weight = g.O.Objective.weight l.objective; floor = g.O.Objective.floor l.objective }) l.what) l.patterns;
  small : IsWithin (l.pattern-index * 10 ^ 9) l.sum;
}
