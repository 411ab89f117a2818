use Rattle.packing_model.proofs.MarkLemmas.{no_mark}
use Rattle.packing_model.proofs.node_marks.no_rows.Goals as goal

pub returns : goal.returns
returns c k = no_mark 4000 k
