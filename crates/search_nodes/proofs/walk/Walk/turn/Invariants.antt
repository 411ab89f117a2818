use Rattle.std.proofs.Common.{◌≡◌, length}
use Rattle.duality.specs.Packing.{Packing}
use Rattle.duality.specs.Walk.{turn}
use Rattle.search_nodes.specs.Paths.{path_of, IsWalk}
use Rattle.search_nodes.proofs.walk.Walk.turn.Given as goal

abbrev pub invariant-sides : goal.invariant-sides
invariant-sides l = record {
  turns : turn (path_of l.self.path) ≡ turn (path_of l.fn.self.path);
  walk : (k : Packing) → IsWalk k l.fn.self → IsWalk k l.self;
}

abbrev pub decreases-sides : goal.decreases-sides
decreases-sides l = length l.self.path
