use Rattle.duality.proofs.WalkLaws.{walk_branch, walk_leaf}
use Rattle.duality.proofs.laws.walk_laws.Goals as goal

pub returns : goal.returns
returns c = record { branch = walk_branch; leaf = walk_leaf }
