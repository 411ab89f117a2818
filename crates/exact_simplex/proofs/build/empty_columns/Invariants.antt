use Rattle.exact_simplex.specs.Build.{AreEmpty}
use Rattle.exact_simplex.proofs.build.empty_columns.Given as goal

abbrev pub invariant-loop : goal.invariant-loop
invariant-loop g l = AreEmpty l.counter l.lists.items
