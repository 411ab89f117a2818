use Rattle.packing_model.proofs.MarkLemmas.{no_mark}
use Rattle.packing_model.proofs.node_marks.many_patterns.Goals as goal

pub returns : goal.returns
returns c k = no_mark 200000 k
