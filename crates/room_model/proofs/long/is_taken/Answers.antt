use Rattle.std.proofs.Common.{◌+◌, ◌*◌, ◌∙◌, false, arith, get_or}
use Rattle.problem_core.proofs.RunLemmas.{run_of-next}
use Rattle.room_model.proofs.long.is_taken.Goals as goal

pub loop-t-preserved : goal.loop-t-preserved
loop-t-preserved c =
    c.loop-t.invariant ∙ run_of-next (λ t. get_or c.args.taken.now (c.args.row * c.args.columns + t) false) c.loop-t.t (c.args.from + c.args.count) (omega arith) c.if-taken-row.false
