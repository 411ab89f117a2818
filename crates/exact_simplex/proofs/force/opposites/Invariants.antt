use Rattle.std.proofs.Common.{◌≡◌, false}
use Rattle.exact_simplex.specs.Force.{SignedTo}
use Rattle.exact_simplex.proofs.force.opposites.Given as goal

abbrev pub invariant-loop-k : goal.invariant-loop-k
invariant-loop-k g l = record {
  wides : g.A.Arith.wides l.arith ≡ g.A.Arith.wides l.fn.arith;
  so_far : SignedTo g.A.Num.Fraction.value false l.y l.k l.numbers.items;
}
