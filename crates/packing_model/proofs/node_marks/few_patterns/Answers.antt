use Rattle.packing_model.proofs.MarkLemmas.{no_mark}
use Rattle.packing_model.proofs.node_marks.few_patterns.Goals as goal

pub returns : goal.returns
returns c k = no_mark 4096 k
