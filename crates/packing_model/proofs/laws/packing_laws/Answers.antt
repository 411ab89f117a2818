use Rattle.packing_model.specs.Rows.{base_rows, row_at}
use Rattle.packing_model.proofs.RowLemmas.{base_clash}
use Rattle.packing_model.proofs.laws.packing_laws.Goals as goal

pub returns : goal.returns
returns c = record {
  cliques = λ p s cuts are clash. record { base = λ r i j k l m hi hj. base_clash p s (row_at (base_rows p s) r) i j are l m hi hj; cut = clash };
  packing = λ p s a are legal. record { apart = λ i j l m differ hi hj. c.pattern_laws.ensures.apart p s a are legal i j l m hi hj };
  measured = c.pattern_laws.ensures.measured;
}
