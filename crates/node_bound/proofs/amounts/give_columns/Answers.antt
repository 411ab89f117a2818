use Rattle.std.proofs.Common.{sym, subst, ◌∙◌, ◌<◌, length}
use Rattle.std.proofs.Math.ListN.{length-set}
use Rattle.exact_simplex.specs.Task.{int_at}
use Rattle.node_bound.specs.Tasks.{column_at}
use Rattle.node_bound.proofs.AmountLaws.{small_plain, below_at, other_at, kept, given_more}
use Rattle.node_bound.proofs.amounts.give_columns.Goals as goal

pub loop-column-preserved : goal.loop-column-preserved
loop-column-preserved c =
    let columns = c.args.columns.now in
    let x = c.args.x.now in
    let zs = c.loop-column.amounts.items in
    let n = c.loop-column.column in
    let was = c.loop-column.invariant in
    let place = subst (λ m. column_at columns n < m) (sym was.one_each) (below_at (length c.args.amounts.now.items) columns n c.requires.known c.loop-column-test.true) in
    record {
      one_each = simp length-set was.one_each;
      given = given_more columns x zs n _ c.requires.differ c.loop-column-test.true place (small_plain (int_at x n) (c.requires.small n)) was.given;
      same = λ p out. kept zs (column_at columns n) p _ (other_at columns n p c.loop-column-test.true out) ∙ was.same p out;
    }
