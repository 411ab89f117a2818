use Rattle.node_bound.proofs.BoundLaws.{decided_bounds}
use Rattle.node_bound.proofs.laws.bound_laws.Goals as goal

pub returns : goal.returns
returns c = decided_bounds
