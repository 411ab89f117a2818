use Rattle.std.proofs.Common.{◌≡◌, ◌++◌, drop, map}
use Rattle.cert_text.specs.Sharing.{plain_trees, leaves_behind}
use Rattle.cert_text.proofs.forms.plain_trees.Given as goal

abbrev pub invariant-loop-tree : goal.invariant-loop-tree
invariant-loop-tree l = record {
  trees : l.plain ++ plain_trees (map (λ leaf. leaf.now) l.leaves) (drop l.tree-index l.trees) ≡ plain_trees (map (λ leaf. leaf.now) l.fn.leaves) l.trees;
  leaves : leaves_behind (map (λ leaf. leaf.now) l.leaves) (drop l.tree-index l.trees) ≡ leaves_behind (map (λ leaf. leaf.now) l.fn.leaves) l.trees;
}
