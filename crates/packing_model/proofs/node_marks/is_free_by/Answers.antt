use Rattle.std.proofs.Common.{sym}
use Rattle.packing_model.proofs.MarkLemmas.{marked_row}
use Rattle.packing_model.proofs.node_marks.is_free_by.Goals as goal

pub returns-then-meets : goal.returns-then-meets
returns-then-meets c =
    sym (marked_row c.args.model.now c.args.fixing.now c.base_runs.result.now c.args.pattern c.args.marks.now.filled c.requires.known c.requires.fixing.of_packing.one c.base_runs.ensures c.requires.marks.filled
    (c.meets.ensures c.if-meets.true))
