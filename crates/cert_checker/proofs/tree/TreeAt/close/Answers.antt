use Rattle.search_nodes.proofs.FixingLaws.{walk_valid}
use Rattle.cert_checker.proofs.tree.TreeAt.close.Goals as goal

pub close_leaf-requires-clause-fixing : goal.close_leaf-requires-clause-fixing
close_leaf-requires-clause-fixing g c = walk_valid c.args.self.now.model.now c.args.walk.now c.requires.walk
