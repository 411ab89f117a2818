use Rattle.std.proofs.Common.{◌&&◌, ◌||◌, drop, arith, ◌∙◌}
use Rattle.std.specs.Prelude.{◌==◌}
use Rattle.std.specs.List.{list_any}
use Rattle.problem_core.proofs.GridLemmas.{IsGrid-ended}
use Rattle.itc_score.proofs.TableLemmas.{join-step}
use Rattle.itc_score.proofs.conflicts.join.Goals as goal

pub loop-left-preserved : goal.loop-left-preserved
loop-left-preserved c = record {
  within = omega (arith, c.loop-left.invariant.within);
  whole = c.join_one.ensures.whole ∙ c.loop-left.invariant.whole;
  joined = λ f grid. join-step c.join_one.new.cells.items c.args.courses c.args.members.now c.loop-left.left f c.loop-left-test.true c.loop-left.invariant.within
      (c.join_one.ensures.joined (λ a b. (list_any (λ m. m == a) (drop c.loop-left.left c.args.members.now) && list_any (λ m. m == b) c.args.members.now) || f a b) (c.loop-left.invariant.joined f grid));
}

pub returns-clause-joined : goal.returns-clause-joined
returns-clause-joined c f grid =
    IsGrid-ended c.loop-left.cells.items c.args.courses c.args.courses c.args.members.now (λ ys a b. (list_any (λ m. m == a) ys && list_any (λ m. m == b) c.args.members.now) || f a b) c.loop-left.left (c.loop-left.invariant.joined f grid) (omega arith)
