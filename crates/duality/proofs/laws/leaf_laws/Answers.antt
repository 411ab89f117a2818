use Rattle.duality.proofs.LeafLaws.{leaf_caps, leaf_empties, row_met}
use Rattle.duality.proofs.FaultLaws.{faultless_closes, closing_faultless, cost_named}
use Rattle.duality.proofs.laws.leaf_laws.Goals as goal

pub returns : goal.returns
returns c = record {
  caps = leaf_caps;
  empties = leaf_empties;
  meets = row_met;
  faultless = λ k w s f leaf. (faultless_closes k w s f leaf, closing_faultless k w s f leaf);
  lowest = cost_named;
}
