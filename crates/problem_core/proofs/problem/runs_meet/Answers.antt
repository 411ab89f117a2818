use Rattle.std.proofs.Common.{arith}
use Rattle.problem_core.proofs.RunLemmas.{runs_meet-before, runs_meet-after}
use Rattle.problem_core.proofs.problem.runs_meet.Goals as goal

pub returns-then-a-b : goal.returns-then-a-b
returns-then-a-b c = runs_meet-before c.args.a c.args.n c.args.b c.args.m c.requires.some c.requires.other_some (omega arith)

pub returns-else-a-b : goal.returns-else-a-b
returns-else-a-b c = runs_meet-after c.args.a c.args.n c.args.b c.args.m (omega arith)
