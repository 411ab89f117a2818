use Rattle.duality.proofs.TreeLaws.{tree_caps, tree_in_preorder}
use Rattle.duality.proofs.laws.tree_laws.Goals as goal

pub returns : goal.returns
returns c = record { caps = tree_caps; preorder = tree_in_preorder }
