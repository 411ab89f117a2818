use Rattle.std.proofs.Common.{drop}
use Rattle.node_bound.specs.Given.{Adds}
use Rattle.node_bound.proofs.given.add_rows.Given as goal

abbrev pub invariant-loop-row : goal.invariant-loop-row
invariant-loop-row l = Adds l.places l.amount l.rows (drop l.row-index l.rows) l.fn.sums l.sums
