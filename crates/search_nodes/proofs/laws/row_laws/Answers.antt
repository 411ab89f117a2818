use Rattle.packing_model.proofs.NodeLemmas.{few_plain_terms}
use Rattle.search_nodes.proofs.RowLaws.{clash_shares, shares_clash, stands_in_event}
use Rattle.search_nodes.proofs.laws.row_laws.Goals as goal

pub returns : goal.returns
returns c = record {
  shared = λ p i j is l m differ. (clash_shares p is i j l m differ, shares_clash p i j l m differ);
  event = λ p i is l. stands_in_event p is i l;
  few = few_plain_terms;
}
