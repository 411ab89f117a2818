use Rattle.exact_simplex.specs.Build.{HasUnits}
use Rattle.exact_simplex.proofs.build.append_units.Given as goal

abbrev pub invariant-loop-i : goal.invariant-loop-i
invariant-loop-i g l = HasUnits l.one l.i l.fn.lists.items l.lists.items
