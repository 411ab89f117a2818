use Rattle.std.proofs.Common.{◌≡◌, ◌++◌, drop}
use Rattle.cert_text.specs.Sharing.{shared_trees, lines_behind}
use Rattle.cert_text.proofs.forms.shared_trees.Given as goal

abbrev pub invariant-loop-tree : goal.invariant-loop-tree
invariant-loop-tree l = record {
  trees : l.shared ++ shared_trees l.lines (drop l.tree-index l.trees) ≡ shared_trees l.fn.lines l.trees;
  lines : lines_behind l.lines (drop l.tree-index l.trees) ≡ lines_behind l.fn.lines l.trees;
}
