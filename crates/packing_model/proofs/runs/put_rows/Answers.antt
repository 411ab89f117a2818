use Rattle.std.proofs.Common.{get_or}
use Rattle.packing_model.proofs.StepLemmas.{member_at}
use Rattle.packing_model.proofs.runs.put_rows.Goals as goal

pub bounds-numbers-key : goal.bounds-numbers-key
bounds-numbers-key c = c.requires (get_or c.args.keys.now c.loop-key.key-index 0) (member_at c.args.keys.now c.loop-key.key-index c.loop-key-test.true)
