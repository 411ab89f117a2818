use Rattle.std.proofs.Common.{◌&&◌, ◌||◌, arith, ◌∙◌}
use Rattle.std.specs.Prelude.{◌==◌}
use Rattle.std.specs.List.{list_any}
use Rattle.std.proofs.Common.{length-set}
use Rattle.problem_core.proofs.GridLemmas.{IsGrid-ended}
use Rattle.itc_score.proofs.TableLemmas.{join_one-step}
use Rattle.itc_score.proofs.conflicts.join_one.Goals as goal

pub loop-left-preserved : goal.loop-left-preserved
loop-left-preserved c = record {
  within = omega (arith, c.loop-left.invariant.within);
  whole = length-set c.loop-left.cells.items _ _ ∙ c.loop-left.invariant.whole;
  joined = λ f grid. join_one-step c.loop-left.cells.items c.args.courses c.args.row c.args.members.now c.loop-left.left f c.loop-left-test.true c.loop-left.invariant.within c.requires.members c.requires.row (c.loop-left.invariant.joined f grid);
}

pub returns-clause-joined : goal.returns-clause-joined
returns-clause-joined c f grid =
    IsGrid-ended c.loop-left.cells.items c.args.courses c.args.courses c.args.members.now (λ ys a b. ((c.args.row == a) && list_any (λ m. m == b) ys) || f a b) c.loop-left.left (c.loop-left.invariant.joined f grid) (omega arith)
