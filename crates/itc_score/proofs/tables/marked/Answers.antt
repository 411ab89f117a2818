use Rattle.std.proofs.Common.{arith}
use Rattle.problem_core.proofs.GridLemmas.{closed_step}
use Rattle.itc_score.proofs.tables.marked.Goals as goal

pub loop-left-preserved : goal.loop-left-preserved
loop-left-preserved c = record {
  within = omega (arith, c.loop-left.invariant.within);
  grid = closed_step c.loop-left.cells.items c.args.rows c.args.columns c.args.pairs.now c.loop-left.left c.loop-left-test.true c.loop-left.invariant.within c.requires.known c.loop-left.invariant.grid;
}
