use Rattle.std.proofs.Common.{◌+◌, ◌*◌, ◌∙◌, false, sym, arith, get_or}
use Rattle.std.proofs.lemmas.Bool.{or_left}
use Rattle.problem_core.proofs.RunLemmas.{run_of-more, run_of-next, run_of-same}
use Rattle.problem_core.proofs.greedy.is_taken.Goals as goal

pub loop-t-init : goal.loop-t-init
loop-t-init c = run_of-same (λ t. get_or c.args.taken.now (c.args.row * c.args.columns + t) false) c.args.from c.args.count

pub returns-then-cell : goal.returns-then-cell
returns-then-cell c =
    sym (c.loop-t.invariant ∙ run_of-more (λ t. get_or c.args.taken.now (c.args.row * c.args.columns + t) false) c.loop-t.t (c.args.from + c.args.count) (omega arith)
    ∙ or_left _ _ (sym (c.cell.ensures false) ∙ c.if-cell.true))

pub loop-t-preserved : goal.loop-t-preserved
loop-t-preserved c =
    c.loop-t.invariant ∙ run_of-next (λ t. get_or c.args.taken.now (c.args.row * c.args.columns + t) false) c.loop-t.t (c.args.from + c.args.count) (omega arith) (sym (c.cell.ensures false) ∙ c.if-cell.false)
