use Rattle.std.proofs.Common.{sym, subst, ◌+◌}
use Rattle.exact_simplex.specs.Build.{AreEmpty}
use Rattle.exact_simplex.proofs.BuildLemmas.{empty_more}
use Rattle.exact_simplex.proofs.build.empty_columns.Goals as goal

pub loop-preserved : goal.loop-preserved
loop-preserved g c = subst (λ z. AreEmpty (c.loop.counter + 1) z) (sym c.in_ok-append_column.ensures.ok) (empty_more c.loop.counter c.loop.lists.items c.new.result c.new.ensures c.loop.invariant)
