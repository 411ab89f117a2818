use Rattle.std.proofs.Common.{◌≡◌, ◌++◌}
use Rattle.node_bound.specs.Places.{stretch_from}
use Rattle.node_bound.proofs.places.push_rows.Given as goal

abbrev pub invariant-loop-i : goal.invariant-loop-i
invariant-loop-i l = l.names ≡ l.fn.names ++ stretch_from l.first l.i
