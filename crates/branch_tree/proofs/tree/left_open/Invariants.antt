use Rattle.std.proofs.Common.{◌≡◌, ◌++◌, suc, drop}
use Rattle.duality.specs.After.{open_ends}
use Rattle.branch_tree.specs.Trees.{outside_count}
use Rattle.branch_tree.proofs.tree.left_open.Given as goal

abbrev pub invariant-loop-side : goal.invariant-loop-side
invariant-loop-side l = record {
  ends : l.nodes ++ open_ends (outside_count (drop l.side-index l.side-items)) ≡ l.fn.growth.nodes ++ open_ends (suc (outside_count l.side-items));
  held : l.held ≡ l.fn.growth.held;
}
