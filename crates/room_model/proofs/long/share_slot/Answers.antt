use Rattle.std.proofs.Common.{arith}
use Rattle.problem_core.proofs.RunLemmas.{runs_meet-before, runs_meet-after}
use Rattle.room_model.proofs.long.share_slot.Goals as goal

pub returns-then-e-f : goal.returns-then-e-f
returns-then-e-f c = runs_meet-before c.args.e.slot c.args.e.length c.args.f.slot c.args.f.length c.requires.some c.requires.other_some (omega arith)

pub returns-else-e-f : goal.returns-else-e-f
returns-else-e-f c = runs_meet-after c.args.e.slot c.args.e.length c.args.f.slot c.args.f.length (omega arith)
