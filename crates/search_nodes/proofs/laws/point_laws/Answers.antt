use Rattle.search_nodes.proofs.PointLaws.{point_sums}
use Rattle.search_nodes.proofs.laws.point_laws.Goals as goal

pub returns : goal.returns
returns c = point_sums
