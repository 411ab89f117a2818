use Rattle.std.proofs.Common.{ℕ, ◌≡◌, ◌≤◌, ◌<◌}
use Rattle.exact_simplex.specs.Enter.{MayHelp}
use Rattle.exact_simplex.proofs.enter.choose_between.Given as goal

abbrev pub invariant-loop-variable : goal.invariant-loop-variable
invariant-loop-variable g l = record {
  wides : g.A.Arith.wides l.arith ≡ g.A.Arith.wides l.fn.arith;
  none : (v : ℕ) → l.from ≤ v → v < l.variable → MayHelp g.A.Num.Fraction.value l.task l.states l.y l.up v → ⊥;
}
