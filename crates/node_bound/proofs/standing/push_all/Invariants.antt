use Rattle.std.proofs.Common.{◌≡◌, ◌++◌, drop}
use Rattle.node_bound.proofs.standing.push_all.Given as goal

abbrev pub invariant-loop-row : goal.invariant-loop-row
invariant-loop-row l = l.rows ++ drop l.row-index l.more ≡ l.fn.rows ++ l.more
