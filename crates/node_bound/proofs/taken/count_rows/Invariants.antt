use Rattle.std.proofs.Common.{drop}
use Rattle.node_bound.specs.Taken.{Counts}
use Rattle.node_bound.proofs.taken.count_rows.Given as goal

abbrev pub invariant-loop-row : goal.invariant-loop-row
invariant-loop-row l = Counts l.places l.rows (drop l.row-index l.rows) l.fn.counts l.counts
