use Rattle.std.proofs.Common.{◌+◌, ◌∙◌, sym, arith}
use Rattle.std.proofs.lemmas.Bool.{or_left}
use Rattle.problem_core.specs.Facts.{is_closed}
use Rattle.problem_core.proofs.RunLemmas.{run_of-more, run_of-next, run_of-same}
use Rattle.problem_core.proofs.problem.Problem.is_closed.Goals as goal

pub loop-s-init : goal.loop-s-init
loop-s-init c = run_of-same (is_closed c.args.self.now c.args.room) c.args.slot c.args.count

pub returns-then-is_closed_at : goal.returns-then-is_closed_at
returns-then-is_closed_at c =
    sym (c.loop-s.invariant ∙ run_of-more (is_closed c.args.self.now c.args.room) c.loop-s.s (c.args.slot + c.args.count) (omega arith) ∙ or_left _ _ (sym c.is_closed_at.ensures ∙ c.if-is_closed_at.true))

pub loop-s-preserved : goal.loop-s-preserved
loop-s-preserved c =
    c.loop-s.invariant ∙ run_of-next (is_closed c.args.self.now c.args.room) c.loop-s.s (c.args.slot + c.args.count) (omega arith) (sym c.is_closed_at.ensures ∙ c.if-is_closed_at.false)
