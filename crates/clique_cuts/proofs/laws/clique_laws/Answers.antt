use Rattle.clique_cuts.proofs.SearchLaws.{three_in_place}
use Rattle.clique_cuts.proofs.laws.clique_laws.Goals as goal

pub returns : goal.returns
returns c = three_in_place
